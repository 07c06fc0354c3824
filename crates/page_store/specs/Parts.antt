-- The parts of a file in memory.
use Rattle.std.specs.Prelude.{◌≡◌, ℕ, ◌*◌, ◌≤◌, List, [], ◌∷◌, length}

-- each part but the last has `pages` pages of 4096 bytes, and the last has at most as many
abbrev pub AreParts : ℕ → List (List ℕ) → Type 0
AreParts pages [] = Unit {0}
AreParts pages (last ∷ []) = length last ≤ 4096 * pages
AreParts pages (part ∷ next ∷ parts) = (length part ≡ 4096 * pages) × AreParts pages (next ∷ parts)
