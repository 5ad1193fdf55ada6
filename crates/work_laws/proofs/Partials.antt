-- Partials keep their operators and have words.
use Rattle.std.proofs.Common.{◌≡◌, ◌<◌, ◌≤◌, ◌+◌, ◌-◌, ℕ, zero, suc, ℤ, Bool, true, false, List, [], ◌∷◌, ◌++◌, map, length, All, refl, sym, ap, subst, ◌∙◌, Option, None, Some, FitsSigned, w64, arith, get_or}
use Rattle.std.specs.Prelude.{if◌then◌else◌, nat_lt, slice_get, slice_set, slice_index}
use Rattle.std.specs.List.{AllByRecursion, range_with_len}
use Rattle.std.proofs.lemmas.Option.{same_Some}
use Rattle.std.proofs.lemmas.List.{length-map, length-set}
use Rattle.std.proofs.lemmas.List.Elements.{All-cons, All-get_or, All-head, All-map, All-nil, All-set, All-tail}
use Rattle.std.proofs.lemmas.List.FromFn.{length-range_with_len}
use Rattle.vert_base.specs.declared.value.Combine.{Combine}
use Rattle.vert_base.specs.declared.value.Combine.TheVariants as combine
use Rattle.slot_merge.specs.declared.partial.Partial.{Partial}
use Rattle.slot_merge.specs.Combine.{Emission}
use Rattle.slot_merge.specs.Partials.{empty_partial, put_word, started, with_emission, with_emissions, with_second, with_word, with_word_from}
use Rattle.vert_eval.specs.Rounds.{slot_ops}
use Rattle.instrument.specs.declared.split.Split.{Split}
use Rattle.body_shape.specs.Update.{Sent}
use Rattle.value_laws.proofs.Runs.{WordFits}
use Rattle.value_laws.proofs.Words.{combined_fits}
use Rattle.symple_face.specs.CoreSight.{program_of}
use Rattle.symple_face.specs.CoreTakes.{classes_of, empty_partials, reduced_ops, with_sent, with_values}
use Rattle.symple_face.specs.Parts.{PlainPart, chunk_vertices}
use Rattle.vert_base.specs.Ends.{start_of}
use Rattle.work_laws.specs.Sound.{ArePartials, HasWord, OfOwn}
use Rattle.work_laws.proofs.Scans.{SentFits}
use Rattle.work_laws.proofs.Words.{MayFit}

-- ---- one word more
second_op : (op : Combine) (key : ℕ) (word : ℤ) (q : Partial) (held : ℤ) → (with_second op key word q held).op ≡ q.op
second_op combine.Min key word q held = refl
second_op combine.Max key word q held = refl
second_op combine.Sum key word q held = refl
second_op combine.First key word q held = by (nat_lt key q.key)
  where
    by : (b : Bool) → (if b then started key word q else q).op ≡ q.op
    by true = refl
    by false = refl

from_op : (o : Option ℤ) (key : ℕ) (word : ℤ) (q : Partial) → (with_word_from o key word q).op ≡ q.op
from_op None key word q = refl
from_op (Some held) key word q = second_op q.op key word q held

second_word : (op : Combine) (key : ℕ) (word : ℤ) (q : Partial) (held : ℤ) → FitsSigned w64 word →
    FitsSigned w64 held → HasWord q →
    HasWord (with_second op key word q held)
second_word combine.Min key word q held f g has z e =
    subst (FitsSigned w64) (same_Some _ z e) (combined_fits combine.Min held word g f)
second_word combine.Max key word q held f g has z e =
    subst (FitsSigned w64) (same_Some _ z e) (combined_fits combine.Max held word g f)
second_word combine.Sum key word q held f g has z e =
    subst (FitsSigned w64) (same_Some _ z e) (combined_fits combine.Sum held word g f)
second_word combine.First key word q held f g has z e = by (nat_lt key q.key) z e
  where
    by : (b : Bool) → HasWord (if b then started key word q else q)
    by true z e = subst (FitsSigned w64) (same_Some word z e) f
    by false z e = has z e

from_word : (o : Option ℤ) (key : ℕ) (word : ℤ) (q : Partial) → q.value ≡ o → FitsSigned w64 word → HasWord q →
    HasWord (with_word_from o key word q)
from_word None key word q e f has z same = subst (FitsSigned w64) (same_Some word z same) f
from_word (Some held) key word q e f has z same = second_word q.op key word q held f (has held e) has z same

word_more : (key : ℕ) (word : ℤ) (q : Partial) → FitsSigned w64 word → HasWord q → HasWord (with_word key word q)
word_more key word q f has = from_word q.value key word q refl f has

-- ---- words side by side
values_ops : (key : ℕ) (xs : List (Option ℤ)) (ps : List Partial) →
    map (λ q. q.op) (with_values key xs ps) ≡ map (λ q. q.op) ps
values_ops key [] ps = refl
values_ops key (x ∷ xs) [] = refl
values_ops key (None ∷ xs) (q ∷ ps) = ap (λ l. q.op ∷ l) (values_ops key xs ps)
values_ops key (Some word ∷ xs) (q ∷ ps) =
    ap (λ op. op ∷ map (λ q. q.op) (with_values key xs ps)) (from_op q.value key word q) ∙ ap (λ l. q.op ∷ l)
    (values_ops key xs ps)

values_words : (key : ℕ) (xs : List (Option ℤ)) (ps : List Partial) → AllByRecursion MayFit xs → All HasWord ps →
    All HasWord (with_values key xs ps)
values_words key [] ps fit has = has
values_words key (x ∷ xs) [] fit has = has
values_words key (None ∷ xs) (q ∷ ps) fit has =
    All-cons HasWord q (with_values key xs ps) (All-head HasWord q ps has)
    (values_words key xs ps fit.1 (All-tail HasWord q ps has))
values_words key (Some word ∷ xs) (q ∷ ps) fit has =
    All-cons HasWord (with_word key word q) (with_values key xs ps)
    (word_more key word q (fit.0 word refl) (All-head HasWord q ps has))
    (values_words key xs ps fit.1 (All-tail HasWord q ps has))

append_fit : (xs ys : List (Option ℤ)) → AllByRecursion MayFit xs → AllByRecursion MayFit ys →
    AllByRecursion MayFit (xs ++ ys)
append_fit [] ys p q = q
append_fit (x ∷ xs) ys p q = (p.0, append_fit xs ys p.1 q)

pub sent_more : (split : Split) (key : ℕ) (sent : Sent) (ps : List Partial) → SentFits split sent →
    ArePartials split ps →
    ArePartials split (with_sent key sent ps)
sent_more split key sent ps fit are = record {
  ops = values_ops key (sent.values ++ sent.operands) ps ∙ are.ops;
  words = values_words key (sent.values ++ sent.operands) ps
      (append_fit sent.values sent.operands fit.values fit.operands) are.words;
}

-- ---- emissions
put_suc : (o : Option Partial) (key : ℕ) (q : Partial) (ps : List Partial) (i : ℕ) (word : ℤ) →
    put_word o key (q ∷ ps) (suc i) word ≡ q ∷ put_word o key ps i word
put_suc None key q ps i word = refl
put_suc (Some p) key q ps i word = refl

put_ops : (key : ℕ) (ps : List Partial) (i : ℕ) (word : ℤ) →
    map (λ q. q.op) (put_word (slice_get ps i) key ps i word) ≡ map (λ q. q.op) ps
put_ops key [] i word = refl
put_ops key (q ∷ ps) zero word = ap (λ op. op ∷ map (λ q. q.op) ps) (from_op q.value key word q)
put_ops key (q ∷ ps) (suc i) word =
    ap (map (λ q. q.op)) (put_suc (slice_get ps i) key q ps i word) ∙ ap (λ l. q.op ∷ l) (put_ops key ps i word)

put_words : (key : ℕ) (ps : List Partial) (i : ℕ) (word : ℤ) → FitsSigned w64 word → All HasWord ps →
    All HasWord (put_word (slice_get ps i) key ps i word)
put_words key [] i word f has = has
put_words key (q ∷ ps) zero word f has =
    All-cons HasWord (with_word key word q) ps (word_more key word q f (All-head HasWord q ps has))
    (All-tail HasWord q ps has)
put_words key (q ∷ ps) (suc i) word f has =
    subst (All HasWord) (sym (put_suc (slice_get ps i) key q ps i word))
    (All-cons HasWord q (put_word (slice_get ps i) key ps i word) (All-head HasWord q ps has)
    (put_words key ps i word f (All-tail HasWord q ps has)))

pub emissions_more : (split : Split) (key : ℕ) (ps : List Partial) (es : List Emission) → All WordFits es →
    ArePartials split ps →
    ArePartials split (with_emissions key ps es)
emissions_more split key ps [] fit are = are
emissions_more split key ps (e ∷ es) fit are =
    emissions_more split key (with_emission key ps e) es (All-tail WordFits e es fit) (record {
      ops = put_ops key ps e.slot e.word ∙ are.ops;
      words = put_words key ps e.slot e.word (All-head WordFits e es fit) are.words;
    })

-- ---- none
empty_ops : (ops : List Combine) → map (λ q. q.op) (map empty_partial ops) ≡ ops
empty_ops [] = refl
empty_ops (op ∷ ops) = ap (λ l. op ∷ l) (empty_ops ops)

empty_words : (ops : List Combine) → All HasWord (map empty_partial ops)
empty_words [] = All-nil HasWord
empty_words (op ∷ ops) = All-cons HasWord (empty_partial op) (map empty_partial ops) (λ z e. cc) (empty_words ops)

pub empty_are : (split : Split) → ArePartials split (empty_partials split)
empty_are split =
    let ops : List Combine = slot_ops (program_of split) ++ reduced_ops (classes_of split.dense) in
    record { ops = empty_ops ops; words = empty_words ops }

-- ---- lists beside the own vertices
pub over_range : (P : ℕ → Type 0) (a n : ℕ) → ((v : ℕ) → a ≤ v → v < a + n → P v) → All P (range_with_len a n)
over_range P a zero h = All-nil P
over_range P a (suc n) h =
    All-cons P a (range_with_len (a + 1) n) (h a (omega arith) (omega arith))
    (over_range P (a + 1) n (λ v low high. h v (omega (arith, low)) (omega (arith, high))))

-- a vertex lies among n from a on
abbrev pub IsAmong : ℕ → ℕ → ℕ → Type 0
IsAmong a n v = (a ≤ v) × (v < a + n)

pub made_own : {X : Type 0} (part : PlainPart) (P : X → Type 0) (f : ℕ → X) →
    ((v : ℕ) → IsAmong (start_of part.ends part.at.machine) (length (chunk_vertices part.ends part.at.machine)) v → P
    (f v)) →
    OfOwn part P (map f (chunk_vertices part.ends part.at.machine))
made_own part P f h =
    let own : List ℕ = chunk_vertices part.ends part.at.machine in
    let a : ℕ = start_of part.ends part.at.machine in
    let n : ℕ = slice_index part.ends part.at.machine - a in (
      length-map own f,
      All-map P f own (over_range (λ v. P (f v)) a n
          (λ v low high. h v (low, omega (arith, high, length-range_with_len a n)))),
    )

pub own_at : {X : Type 0} (part : PlainPart) (P : X → Type 0) (xs : List X) (d : X) (v : ℕ) → OfOwn part P xs →
    IsAmong (start_of part.ends part.at.machine) (length (chunk_vertices part.ends part.at.machine)) v →
    P (get_or xs (v - start_of part.ends part.at.machine) d)
own_at part P xs d v are among =
    let low = among.0 in
    let high = among.1 in
    let n = are.0 in
    All-get_or P xs (v - start_of part.ends part.at.machine) d (omega (arith, low, high, n)) are.1

pub set_own : {X : Type 0} (part : PlainPart) (P : X → Type 0) (xs : List X) (i : ℕ) (x : X) → OfOwn part P xs → P x →
    OfOwn part P (slice_set xs i x)
set_own part P xs i x are p = (length-set xs i x ∙ are.0, All-set P xs i x p are.1)
