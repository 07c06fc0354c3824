-- The definitions at small values.
use Rattle.std.proofs.Common.{◌≡◌, [], ◌∷◌, refl}
use Rattle.free_pages.specs.Keeping.{FreePages, with_left, with_pins, without_pin}
use Rattle.free_pages.specs.Walk.{outside_pages}

outside : outside_pages 9 (5 ∷ 3 ∷ 7 ∷ []) ≡ 4 ∷ 6 ∷ 8 ∷ []
outside = refl

-- generations 5 and 6 are pinned, and page 8 is free
abbrev begun : FreePages
begun = record { free = 8 ∷ []; pins = 5 ∷ 6 ∷ []; held = []; spare = 9; newest = 5 }

-- commits to generations 5, 6 and 7 leave a page each
abbrev left_three : FreePages
left_three = with_left (with_left (with_left begun 21 5) 20 6) 4 7

one_is_free : left_three.free ≡ 8 ∷ 21 ∷ []
one_is_free = refl

two_are_held : left_three.held ≡ record { page = 4; generation = 7 } ∷ record { page = 20; generation = 6 } ∷ []
two_are_held = refl

without_five : (with_pins left_three (without_pin 5 left_three.pins)).free ≡ 8 ∷ 20 ∷ 21 ∷ []
without_five = refl

without_any : (with_pins left_three []).free ≡ 4 ∷ 8 ∷ 20 ∷ 21 ∷ []
without_any = refl
