-- The emissions of code, and the partials of a vertex, of which those of slots come first.
use Rattle.std.proofs.Common.{◌≡◌, ℕ, ℤ, zero, suc, ◌+◌, ◌<◌, ◌≤◌, true, Option, None, Some, List, [], ◌∷◌, ◌++◌, length, take, drop, refl, sym, ap, subst, ◌∙◌, arith, slice_get}
use Rattle.std.specs.List.{AllByRecursion}
use Rattle.std.proofs.lemmas.Bool.{and_parts, ltb-true}
use Rattle.std.proofs.lemmas.List.{length-set, length-take-le, take-append-drop}
use Rattle.vert_base.proofs.Orders.{all_append}
use Rattle.vert_tree.specs.Places.{Counts}
use Rattle.slot_merge.specs.declared.partial.Partial.{Partial}
use Rattle.slot_merge.specs.Combine.{Emission}
use Rattle.slot_merge.specs.Partials.{put_word, with_emission, with_emissions, with_word}
use Rattle.vert_eval.specs.declared.environment.Env.{Env}
use Rattle.vert_eval.specs.declared.environment.Flow.{Flow}
use Rattle.vert_eval.specs.declared.environment.Flow.TheVariants.{Going, Broke}
use Rattle.vert_eval.specs.Runs.{Act, Ran, after, by_flow, followed_by}
use Rattle.vert_code.specs.declared.instr.Instr.{Instr}
use Rattle.vert_code.specs.declared.instr.Instr.TheVariants.{Emit}
use Rattle.vert_code.specs.Machine.{Step, goes_on, run_code, step}
use Rattle.vert_code.specs.Valid.{has_names, list_names}

-- ---- each emission of a list is to a slot that is there
abbrev pub AreBelow : ℕ → List Emission → Type 0
AreBelow slots es = AllByRecursion (λ e. e.slot < slots) es

step_below : (c : Counts) (i : Instr) (place : ℕ) (stack : List ℤ) (env : Env) → has_names c i ≡ true →
    AreBelow c.slots (step i place stack env).ran.emitted
step_below c (Emit k) place stack env names = (ltb-true k c.slots names, tt)
step_below c _ place stack env names = tt

followed_below : (slots : ℕ) (ran : Ran) (next : Act) → AreBelow slots ran.emitted →
    ((env : Env) → AreBelow slots (next env).emitted) → AreBelow slots (followed_by ran next).emitted
followed_below slots ran next first rest = by ran.flow
  where
    by : (flow : Flow) → AreBelow slots (by_flow flow ran (after ran (next ran.env))).emitted
    by Broke = first
    by Going = all_append (λ e. e.slot < slots) ran.emitted (next ran.env).emitted first (rest ran.env)

goes_below : (c : Counts) (place : ℕ) (list : List Instr) (over : ℕ) (stack : List ℤ) (env : Env) →
    list_names c list ≡ true → AreBelow c.slots (goes_on place list over stack env).emitted
goes_below c place [] over stack env names = tt
goes_below c place (i ∷ rest) (suc over) stack env names =
    goes_below c (place + 1) rest over stack env (and_parts (has_names c i) (list_names c rest) names).1
goes_below c place (i ∷ rest) zero stack env names =
    let both = and_parts (has_names c i) (list_names c rest) names in
    let s : Step = step i place stack env in
    followed_below c.slots s.ran (goes_on (place + 1) rest s.over s.stack) (step_below c i place stack env both.0)
    (λ next. goes_below c (place + 1) rest s.over s.stack next both.1)

pub emitted_below : (c : Counts) (list : List Instr) (env : Env) → list_names c list ≡ true →
    AreBelow c.slots (run_code list env).emitted
emitted_below c list env names = goes_below c 0 list 0 [] env names

-- ---- they change the partials of slots alone
put_front : (key : ℕ) (word : ℤ) (ps qs : List Partial) (k : ℕ) → k < length ps →
    put_word (slice_get (ps ++ qs) k) key (ps ++ qs) k word ≡ put_word (slice_get ps k) key ps k word ++ qs
put_front key word [] qs k lt = absurd (omega arith)
put_front key word (p ∷ ps) qs zero lt = refl
put_front key word (p ∷ ps) qs (suc k) lt =
    more (slice_get (ps ++ qs) k) (ps ++ qs)
    ∙ ap (λ rest. p ∷ rest) (put_front key word ps qs k (omega arith))
    ∙ ap (λ front. front ++ qs) (sym (more (slice_get ps k) ps))
  where
    more : (o : Option Partial) (rest : List Partial) →
        put_word o key (p ∷ rest) (suc k) word ≡ p ∷ put_word o key rest k word
    more None rest = refl
    more (Some q) rest = refl

length-with_emission : (key : ℕ) (ps : List Partial) (e : Emission) → length (with_emission key ps e) ≡ length ps
length-with_emission key ps e = by (slice_get ps e.slot)
  where
    by : (o : Option Partial) → length (put_word o key ps e.slot e.word) ≡ length ps
    by None = refl
    by (Some p) = length-set ps e.slot (with_word key e.word p)

pub length-with_emissions : (key : ℕ) (ps : List Partial) (es : List Emission) →
    length (with_emissions key ps es) ≡ length ps
length-with_emissions key ps [] = refl
length-with_emissions key ps (e ∷ es) =
    length-with_emissions key (with_emission key ps e) es ∙ length-with_emission key ps e

pub with_emissions-front : (key : ℕ) (ps qs : List Partial) (es : List Emission) → AreBelow (length ps) es →
    with_emissions key (ps ++ qs) es ≡ with_emissions key ps es ++ qs
with_emissions-front key ps qs [] below = refl
with_emissions-front key ps qs (e ∷ es) below =
    ap (λ rs. with_emissions key rs es) (put_front key e.word ps qs e.slot below.0)
    ∙ with_emissions-front key (with_emission key ps e) qs es
    (subst (λ n. AreBelow n es) (sym (length-with_emission key ps e)) below.1)

-- where the first partials of a row are those of slots, the row after emissions to slots has the others as they were
pub row_emitted : (key slots : ℕ) (row ps : List Partial) (es : List Emission) → slots ≤ length row →
    AreBelow slots es → ps ≡ with_emissions key (take slots row) es →
    ps ++ drop (length ps) row ≡ with_emissions key row es
row_emitted key slots row ps es le below is =
    let front : List Partial = take slots row in
    let size : length (take slots row) ≡ slots = length-take-le slots row le in
    let count : length ps ≡ slots = ap length is ∙ length-with_emissions key front es ∙ size in
    ap (λ n. ps ++ drop n row) count
    ∙ ap (λ qs. qs ++ drop slots row) is
    ∙ sym (with_emissions-front key front (drop slots row) es (subst (λ n. AreBelow n es) (sym size) below))
    ∙ ap (λ rs. with_emissions key rs es) (take-append-drop slots row)
