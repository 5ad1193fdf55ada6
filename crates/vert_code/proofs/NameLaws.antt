-- Names, where there are more of them.
use Rattle.std.proofs.Common.{◌≡◌, ℕ, ◌≤◌, true, List, [], ◌∷◌, refl, arith, nat_lt}
use Rattle.std.proofs.lemmas.Bool.{lt-ltb, ltb-true}
use Rattle.std.specs.Cmp.Derive.{both_true}
use Rattle.vert_tree.specs.Places.{Counts}
use Rattle.vert_code.specs.declared.instr.Instr.{Instr}
use Rattle.vert_code.specs.declared.instr.Instr.TheVariants.{Push, Word, Field, Local, Sent, Total, Got, Value, OtherField, OtherWord, Draw, Neg, Not, Op, Least, Greatest, ToLocal, ToField, ToActive, Emit, Jump, JumpUnless, Break}
use Rattle.vert_code.specs.Valid.{has_names, list_names}
use Rattle.vert_code.proofs.Sound.{left_true, right_true}

-- no more words of any kind
pub record Within (c d : Counts) : Type 0 where
  pub fields : c.fields ≤ d.fields
  pub locals : c.locals ≤ d.locals
  pub sends : c.sends ≤ d.sends
  pub slots : c.slots ≤ d.slots
  pub totals : c.totals ≤ d.totals
  pub others : c.other_fields ≤ d.other_fields

below_more : (i n m : ℕ) → n ≤ m → nat_lt i n ≡ true → nat_lt i m ≡ true
below_more i n m le h = let lt = ltb-true i n h in lt-ltb i m (omega arith)

-- what names only what is there does so where there is more
module _ (c d : Counts) (w : Within c d) where
  named_more : (i : Instr) → has_names c i ≡ true → has_names d i ≡ true
  named_more (Push x) h = refl
  named_more (Word x) h = refl
  named_more (Field i) h = below_more i c.fields d.fields w.fields h
  named_more (Local i) h = below_more i c.locals d.locals w.locals h
  named_more (Sent i) h = below_more i c.sends d.sends w.sends h
  named_more (Total i) h = below_more i c.totals d.totals w.totals h
  named_more (Got i) h = below_more i c.slots d.slots w.slots h
  named_more (Value i) h = below_more i c.slots d.slots w.slots h
  named_more (OtherField i) h = below_more i c.other_fields d.other_fields w.others h
  named_more (OtherWord x) h = refl
  named_more (Draw k) h = refl
  named_more Neg h = refl
  named_more Not h = refl
  named_more (Op op) h = refl
  named_more Least h = refl
  named_more Greatest h = refl
  named_more (ToLocal op i) h = below_more i c.locals d.locals w.locals h
  named_more (ToField op i) h = below_more i c.fields d.fields w.fields h
  named_more ToActive h = refl
  named_more (Emit i) h = below_more i c.slots d.slots w.slots h
  named_more (Jump t) h = refl
  named_more (JumpUnless t) h = refl
  named_more Break h = refl

  pub names_more : (list : List Instr) → list_names c list ≡ true → list_names d list ≡ true
  names_more [] h = refl
  names_more (i ∷ is) h =
      both_true (named_more i (left_true (has_names c i) (list_names c is) h))
      (names_more is (right_true (has_names c i) (list_names c is) h))
