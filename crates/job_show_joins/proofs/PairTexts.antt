-- One piece of a text after the other.
use Rattle.std.proofs.Common.{◌≡◌, ℕ, List, ◌++◌, sym, ap, ◌∙◌, append_assoc}

pub pieces : (out first w one a two n end : List ℕ) → ((out ++ first) ++ (((w ++ one) ++ a) ++ two)) ++ (n ++ end) ≡ out ++ ((((((first ++ w) ++ one) ++ a) ++ two) ++ n) ++ end)
pieces out first w one a two n end =
    ap (λ (l : List ℕ). l ++ (n ++ end)) (append_assoc out first (((w ++ one) ++ a) ++ two))
    ∙ append_assoc out (first ++ (((w ++ one) ++ a) ++ two)) (n ++ end)
    ∙ ap (λ (l : List ℕ). out ++ l)
    (ap (λ (l : List ℕ). l ++ (n ++ end)) (sym (append_assoc first ((w ++ one) ++ a) two) ∙ ap (λ (l : List ℕ). l ++ two) (sym (append_assoc first (w ++ one) a) ∙ ap (λ (l : List ℕ). l ++ a) (sym (append_assoc first w one))))
    ∙ sym (append_assoc ((((first ++ w) ++ one) ++ a) ++ two) n end))
