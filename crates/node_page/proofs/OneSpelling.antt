-- A head or a slot has one page.
use Rattle.std.proofs.Common.{◌≡◌, inl, inr, ℕ, zero, suc, ◌+◌, ◌*◌, ◌^◌, ◌<◌, ◌≤◌, true, List, length, slice_index, sym, ◌∙◌, ap, arith, mul-le-mul_right}
use Rattle.std.proofs.lemmas.Bool.{cases_lt, eqb-true}
use Rattle.std.proofs.lemmas.List.{ext_get_or}
use Rattle.byteorder.specs.Endian.{big_from}
use Rattle.byteorder.specs.Numbers.{big_from-lt}
use Rattle.node_page.specs.Bytes.{number_at}
use Rattle.node_page.specs.Heads.{SpellsHead}
use Rattle.node_page.specs.Slots.{SpellsSlot}
use Rattle.node_page.specs.Laws.{IsPage}
use Rattle.node_page.specs.declared.head.Head.{Head}
use Rattle.node_page.specs.declared.slot.Slot.{Slot}

not_above : (x y r s b : ℕ) → r < b → x < y → x * b + r ≡ y * b + s → ⊥
not_above x y r s b low lt same =
    let more : (x + 1) * b ≤ y * b = mul-le-mul_right b (omega arith) in
    omega arith

digits : (x y r s b : ℕ) → r < b → s < b → x * b + r ≡ y * b + s → (x ≡ y) × (r ≡ s)
digits x y r s b low low2 same = elim (cases_lt x y) [
  | inl lt ↦ absurd (not_above x y r s b low lt same)
  | inr ge ↦ elim (cases_lt y x) [
    | inl gt ↦ absurd (not_above y x s r b low2 gt (sym same))
    | inr le ↦
        (let top : x ≡ y = omega arith in
        let product : x * b ≡ y * b = ap (λ (m : ℕ). m * b) top in
        (top, omega (arith, product, same)))
  ]
]

big_same : (at n : ℕ) (xs ys : List ℕ) → ((k : ℕ) → slice_index xs k < 256) → ((k : ℕ) → slice_index ys k < 256) → big_from at n xs ≡ big_from at n ys
    → (k : ℕ) → at ≤ k → k < at + n → slice_index xs k ≡ slice_index ys k
big_same at zero xs ys xb yb same k from to = absurd (let e : ⊥ = omega arith in e)
big_same at (suc n) xs ys xb yb same k from to =
    let each = digits (slice_index xs at) (slice_index ys at) (big_from (suc at) n xs) (big_from (suc at) n ys) (256 ^ n) (big_from-lt (suc at) n xs xb) (big_from-lt (suc at) n ys yb) same in
    elim (cases_lt at k) [
      | inl above ↦ big_same (suc at) n xs ys xb yb each.1 k (omega arith) (omega arith)
      | inr here ↦ (let e : k ≡ at = omega arith in ap (λ (m : ℕ). slice_index xs m) e ∙ each.0 ∙ sym (ap (λ (m : ℕ). slice_index ys m) e))
    ]

-- one number has one spelling
pub number_same : (at n : ℕ) (xs ys : List ℕ) → ((k : ℕ) → slice_index xs k < 256) → ((k : ℕ) → slice_index ys k < 256) → number_at at n xs ≡ number_at at n ys
    → (k : ℕ) → at ≤ k → k < at + n → slice_index xs k ≡ slice_index ys k
unfolding number_at
number_same at n xs ys xb yb same = big_same at n xs ys xb yb same

byte_same : (at k : ℕ) (xs ys : List ℕ) → k ≡ at → slice_index xs at ≡ slice_index ys at → slice_index xs k ≡ slice_index ys k
byte_same at k xs ys e same = ap (λ (m : ℕ). slice_index xs m) e ∙ same ∙ sym (ap (λ (m : ℕ). slice_index ys m) e)

-- a head has one page
pub one_head : (one other : List ℕ) (head : Head) → IsPage one → IsPage other → SpellsHead one head → SpellsHead other head → one ≡ other
one_head one other head o q a b = ext_get_or 0 one other (o.size ∙ sym q.size) same
  where
    same : (k : ℕ) → k < length one → slice_index one k ≡ slice_index other k
    same k below = elim (cases_lt k 8) [
      | inl below8 ↦ number_same 0 8 one other o.each q.each (a.magic ∙ sym b.magic) k (omega arith) (omega arith)
      | inr from8 ↦ (elim (cases_lt k 10) [
        | inl below10 ↦ number_same 8 2 one other o.each q.each (a.version ∙ sym b.version) k (omega arith) (omega arith)
        | inr from10 ↦ (elim (cases_lt k 11) [
          | inl below11 ↦ byte_same 10 k one other (omega arith) (a.kind ∙ sym b.kind)
          | inr from11 ↦ (elim (cases_lt k 12) [
            | inl below12 ↦ byte_same 11 k one other (omega arith) (a.dim ∙ sym b.dim)
            | inr from12 ↦ (elim (cases_lt k 13) [
              | inl below13 ↦ byte_same 12 k one other (omega arith) (a.promote ∙ sym b.promote)
              | inr from13 ↦ (elim (cases_lt k 14) [
                | inl below14 ↦ byte_same 13 k one other (omega arith) (a.split ∙ sym b.split)
                | inr from14 ↦ (elim (cases_lt k 16) [
                  | inl below16 ↦ a.between k (omega arith) (omega arith) ∙ sym (b.between k (omega arith) (omega arith))
                  | inr from16 ↦ (elim (cases_lt k 20) [
                    | inl below20 ↦ number_same 16 4 one other o.each q.each (a.limit ∙ sym b.limit) k (omega arith) (omega arith)
                    | inr from20 ↦ (a.behind k (omega arith) (omega (arith, o.size, below)) ∙ sym (b.behind k (omega arith) (omega (arith, o.size, below))))
                  ])
                ])
              ])
            ])
          ])
        ])
      ])
    ]

-- a slot has one page for each byte of its gate
pub one_slot : (one other : List ℕ) (slot : Slot) → IsPage one → IsPage other → SpellsSlot one slot → SpellsSlot other slot → slice_index one 0 ≡ slice_index other 0 → one ≡ other
one_slot one other slot o q a b gate = ext_get_or 0 one other (o.size ∙ sym q.size) same
  where
    same : (k : ℕ) → k < length one → slice_index one k ≡ slice_index other k
    same k below = elim (cases_lt k 1) [
      | inl below1 ↦ byte_same 0 k one other (omega arith) gate
      | inr from1 ↦ (elim (cases_lt k 8) [
        | inl below8 ↦ a.rest.between k (omega arith) (omega arith) ∙ sym (b.rest.between k (omega arith) (omega arith))
        | inr from8 ↦ (elim (cases_lt k 16) [
          | inl below16 ↦ number_same 8 8 one other o.each q.each (a.generation ∙ sym b.generation) k (omega arith) (omega arith)
          | inr from16 ↦ (elim (cases_lt k 20) [
            | inl below20 ↦ number_same 16 4 one other o.each q.each (a.root ∙ sym b.root) k (omega arith) (omega arith)
            | inr from20 ↦ (elim (cases_lt k 24) [
              | inl below24 ↦ number_same 20 4 one other o.each q.each (a.height ∙ sym b.height) k (omega arith) (omega arith)
              | inr from24 ↦ (elim (cases_lt k 28) [
                | inl below28 ↦ number_same 24 4 one other o.each q.each (a.count ∙ sym b.count) k (omega arith) (omega arith)
                | inr from28 ↦ (elim (cases_lt k 32) [
                  | inl below32 ↦ number_same 28 4 one other o.each q.each (a.pages ∙ sym b.pages) k (omega arith) (omega arith)
                  | inr from32 ↦ (a.rest.behind k (omega arith) (omega (arith, o.size, below)) ∙ sym (b.rest.behind k (omega arith) (omega (arith, o.size, below))))
                ])
              ])
            ])
          ])
        ])
      ])
    ]

-- an open gate is one byte
pub one_open_gate : (one other : List ℕ) (slot : Slot) → SpellsSlot one slot → SpellsSlot other slot → slot.gate ≡ true → slice_index one 0 ≡ slice_index other 0
one_open_gate one other slot a b open_gate =
    eqb-true (slice_index one 0) 165 (a.gate ∙ open_gate) ∙ sym (eqb-true (slice_index other 0) 165 (b.gate ∙ open_gate))
