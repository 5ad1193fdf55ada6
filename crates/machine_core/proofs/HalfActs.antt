-- What the action of a scan of a half of another chunk leaves and sends.
use Rattle.std.proofs.Common.{◌≡◌, ◌≤◌, ◌<◌, ◌+◌, ◌-◌, ◌&&◌, ◌∙◌, inl, inr, ℕ, ℤ, Bool, true, false, Option, Some, None, List, [], ◌∷◌, length, map, drop, take, refl, ap, sym, subst, arith}
use Rattle.std.specs.Prelude.{if◌then◌else◌, is_none, nat_lt}
use Rattle.std.specs.List.{list_all}
use Rattle.std.proofs.Math.Logic.{∥∥₁_elim, ∥∥₁_map}
use Rattle.std.proofs.Props.{props}
use Rattle.std.proofs.lemmas.Bool.{and_parts, le-ltb, ltb-true, lt-ltb}
use Rattle.vert_base.specs.declared.message.Name.{Name}
use Rattle.vert_base.specs.Letters.{Letter}
use Rattle.vert_tree.proofs.TypedLaws.{few_rounds}
use Rattle.dep_layout.specs.Judgement.{FitsRing, mark_len, pairs_in, refusal_of, rows_in, started}
use Rattle.dep_layout.specs.Spelling.{are_typed}
use Rattle.dep_layout.proofs.SpellingLaws.{accepted_parts, sound_parts}
use Rattle.body_shape.specs.Fit.{is_fit}
use Rattle.body_shape.specs.declared.shape.BodyShape.TheVariants.{Dep}
use Rattle.circulant_plan.specs.declared.spot.Spot.TheVariants.{Scan}
use Rattle.circulant_plan.specs.Names.{dep_name, update_name}
use Rattle.circulant_plan.specs.Ring.{after_machine, before_machine, chunk_of}
use Rattle.circulant_plan.specs.Table.{name_if}
use Rattle.symple_face.specs.CoreDense.{needed_dep, scan_dep, scan_go, scan_kept, scan_read, scan_update}
use Rattle.symple_face.specs.CoreSight.{held_body, program_of}
use Rattle.symple_face.specs.CoreWork.{sent_at}
use Rattle.symple_face.specs.Plans.{blocks_of, loop_carry, ring_of}
use Rattle.symple_face.specs.Shapes.{carried_in, half_in, size_of, types_at, types_of, words_in}
use Rattle.body_shape.specs.Shapes.{bool_bits}
use Rattle.vert_tree.specs.Places.{lets_in}
use Rattle.symple_face.specs.State.{State, machine, p_of}
use Rattle.work_laws.specs.Sound.{FitsSpot, core_sound}
use Rattle.work_laws.proofs.Held.{MayRead, may_read, same_chunk, shape_parts}
use Rattle.work_laws.proofs.Sees.{scan_kept_fits, scan_read_fits}
use Rattle.machine_steps.specs.Going.{half_sent, sent_from}
use Rattle.machine_steps.specs.Halves.{needed_body}
use Rattle.state_laws.proofs.Options.{none_of}

-- ---- the numbers of the spot
pub record IsScanOf (s : State) (r step h : ℕ) : Type 0 where
  pub block : (blocks_of s.split).dense ≡ true
  pub some : 1 ≤ r
  pub few : r ≤ 10000
  pub step_low : step < p_of s
  pub half_low : h ≤ 1

scan_prop : (s : State) (r step h : ℕ) → IsProp (IsScanOf s r step h)
scan_prop s r step h = hlevel props

pub scan_low : (s : State) (r step h : ℕ) → ∥ core_sound s ∥₁ → s.at.spot ≡ Scan r step h → IsScanOf s r step h
scan_low s r step h sound at =
    ∥∥₁_elim sound (scan_prop s r step h)
    (λ k.
    let spot : FitsSpot s (Scan r step h) = subst (FitsSpot s) at k.spot in
    let few = few_rounds (program_of s.split) k.can.program.typed in
    let low = spot.1.1 in
    record { block = spot.0; some = spot.1.0; few = omega arith; step_low = spot.2; half_low = spot.3 })

-- ---- what is left
pub read_sound : (s : State) (r step h : ℕ) → ∥ core_sound s ∥₁ → s.at.spot ≡ Scan r step h →
    ∥ core_sound (scan_read s r step h) ∥₁
read_sound s r step h sound at =
    ∥∥₁_map sound
    (λ k.
    let spot : FitsSpot s (Scan r step h) = subst (FitsSpot s) at k.spot in
    let few = few_rounds (program_of s.split) k.can.program.typed in
    let low = spot.1.1 in
    let after : FitsSpot (scan_read s r step h) (Scan r step h) = spot in
    record {
      can = k.can;
      fits = scan_read_fits s k.can k.fits r step h (omega arith) spot.2;
      round = k.round;
      spot = subst (FitsSpot (scan_read s r step h)) (sym at) after;
    })

pub read_goes : (s : State) (r step h : ℕ) → step + 1 < p_of s → scan_read s r step h ≡ scan_go s r step h
read_goes s r step h low =
    ap (λ b. if b then scan_read s r step h else scan_kept s r step h)
    (sym (lt-ltb step (p_of s - 1) (omega arith)))

-- ---- what is sent
pub half_sends : (s : State) (r step h : ℕ) → step + 1 < p_of s → sent_from s (Scan r step h) ≡
    half_sent s.split (p_of s) (machine s) r step h (scan_update s r step h) (scan_dep s r step h)
half_sends s r step h low =
    let x : Name = update_name r step h (machine s) (chunk_of (machine s) step (p_of s)) in
    let y : Name = dep_name r step h (machine s) (after_machine (machine s) (p_of s)) in
    let f : Name → Letter = λ n. record { name = n; body = sent_at s (Scan r step h) n } in
    ap (λ b. map f (if b then x ∷ name_if (ring_of s.split (p_of s)).carry y else []))
    (lt-ltb step (p_of s - 1) (omega arith))
    ∙ ap (λ rest. f x ∷ rest) (both (ring_of s.split (p_of s)).carry)
  where
    both : (c : Bool) →
        map (λ n. let l : Letter = record { name = n; body = sent_at s (Scan r step h) n } in l)
        (name_if c (dep_name r step h (machine s) (after_machine (machine s) (p_of s)))) ≡
        map (λ n. let l : Letter = record { name = n; body = scan_dep s r step h } in l)
        (name_if c (dep_name r step h (machine s) (after_machine (machine s) (p_of s))))
    both true = refl
    both false = refl

-- ---- the loop states that are needed
none_typed : (words : List ℤ) → are_typed 0 words ≡ true
none_typed [] = refl
none_typed (w ∷ ws) = none_typed ws

rows_typed : (rows : List (List ℤ)) → list_all (are_typed 0) rows ≡ true
rows_typed [] = refl
rows_typed (row ∷ rows) = ap (λ b. b && list_all (are_typed 0) rows) (none_typed row) ∙ rows_typed rows

else_none : {X : Type 0} (b : Bool) (x : X) (o q : Option X) → (o ≡ None → q ≡ None) →
    (if b then Some x else o) ≡ None → (if b then Some x else q) ≡ None
else_none true x o q f e = e
else_none false x o q f e = f e

-- what fits with Bools fits without
without_bools : (width count bools : ℕ) (body : List ℕ) → refusal_of width count bools body ≡ None →
    refusal_of width count 0 body ≡ None
without_bools width count bools body =
    else_none (nat_lt (length body) (mark_len count)) _ _ _
    (λ e.
    let marks = take (mark_len count) body in
    let words = drop (mark_len count) body in
    let parts = sound_parts width bools count marks words e in
    accepted_parts width 0 count marks words
    (record {
      one = parts.one;
      behind = parts.behind;
      count = parts.count;
      typed = rows_typed
          (rows_in width (started (take count (pairs_in (take (mark_len count) body)))) (drop (mark_len count) body));
    }))

no_byte : {X : Type 0} (xs : List ℕ) → xs ≡ [] → 0 < length xs → X
no_byte xs none some = let no : length xs ≡ 0 = ap (λ (l : List ℕ). length l) none in absurd (omega arith)

pub dep_fits : (s : State) (r step h : ℕ) → ∥ core_sound s ∥₁ → step < p_of s →
    0 < length (needed_body s (needed_dep s r step h)) →
    FitsRing (words_in (loop_carry s.split.dense))
    (size_of (half_in s.part.ends (chunk_of (machine s) step (p_of s)) h)) 0
    (needed_body s (needed_dep s r step h))
dep_fits s r step h sound low =
    ∥∥₁_elim sound (hlevel props)
    (λ k. by k ((ring_of s.split (p_of s)).carry && nat_lt 0 step) refl)
  where
    width : ℕ
    width = words_in (loop_carry s.split.dense)

    size : ℕ
    size = size_of (half_in s.part.ends (chunk_of (machine s) step (p_of s)) h)

    x : Name
    x = dep_name r (step - 1) h (before_machine (machine s) (p_of s)) (machine s)

    bools : ℕ
    bools = bool_bits (types_at (types_of (lets_in (program_of s.split).dense)) (carried_in s.split.dense))

    read : core_sound s → 0 < step → 0 < length (held_body s x) → MayRead s.split s.part x (held_body s x) →
        FitsRing width size 0 (held_body s x)
    read k later some (inl none) = no_byte (held_body s x) none some
    read k later some (inr fits) =
        without_bools width size bools (held_body s x)
        (none_of (refusal_of width size bools (held_body s x))
        (ap (λ shape. is_fit shape (held_body s x))
        (ap (λ c. Dep (size_of (half_in s.part.ends c h)) width bools)
        (sym (same_chunk (machine s) step (p_of s) k.can.place later low))
        ∙ (shape_parts s.split s.part x fits.0 fits.1).1)
        ∙ fits.2))

    by : core_sound s → (b : Bool) → ((ring_of s.split (p_of s)).carry && nat_lt 0 step) ≡ b →
        0 < length (needed_body s (name_if b x)) →
        FitsRing width size 0 (needed_body s (name_if b x))
    by k true e some =
        read k (ltb-true 0 step (and_parts (ring_of s.split (p_of s)).carry (nat_lt 0 step) e).1) some
        (may_read s.split s.part x s.held k.fits.held)
    by k false e some = absurd (omega arith)

-- ---- a half of the own chunk
pub kept_sound : (s : State) (r step h : ℕ) → ∥ core_sound s ∥₁ → s.at.spot ≡ Scan r step h →
    ∥ core_sound (scan_kept s r step h) ∥₁
kept_sound s r step h sound at =
    ∥∥₁_map sound
    (λ k.
    let spot : FitsSpot s (Scan r step h) = subst (FitsSpot s) at k.spot in
    let few = few_rounds (program_of s.split) k.can.program.typed in
    let low = spot.1.1 in
    let after : FitsSpot (scan_kept s r step h) (Scan r step h) = spot in
    record {
      can = k.can;
      fits = scan_kept_fits s k.can k.fits r step h (omega arith) spot.2;
      round = k.round;
      spot = subst (FitsSpot (scan_kept s r step h)) (sym at) after;
    })

last_not : (s : State) (step : ℕ) → step + 1 ≡ p_of s → nat_lt step (p_of s - 1) ≡ false
last_not s step last = le-ltb step (p_of s - 1) (omega arith)

pub kept_goes : (s : State) (r step h : ℕ) → step + 1 ≡ p_of s → scan_kept s r step h ≡ scan_go s r step h
kept_goes s r step h last =
    ap (λ b. if b then scan_read s r step h else scan_kept s r step h) (sym (last_not s step last))

pub last_sends : (s : State) (r step h : ℕ) → step + 1 ≡ p_of s → sent_from s (Scan r step h) ≡ []
last_sends s r step h last =
    let x : Name = update_name r step h (machine s) (chunk_of (machine s) step (p_of s)) in
    let y : Name = dep_name r step h (machine s) (after_machine (machine s) (p_of s)) in
    let f : Name → Letter = λ n. record { name = n; body = sent_at s (Scan r step h) n } in
    ap (λ b. map f (if b then x ∷ name_if (ring_of s.split (p_of s)).carry y else [])) (last_not s step last)

own_last : (m step p : ℕ) → m < p → step + 1 ≡ p → chunk_of m step p ≡ m
own_last m step p within last = grind (arith, within, last)

pub last_chunk : (s : State) (step : ℕ) → ∥ core_sound s ∥₁ → step + 1 ≡ p_of s →
    chunk_of (machine s) step (p_of s) ≡ machine s
last_chunk s step sound last =
    ∥∥₁_elim sound (hlevel props) (λ k. own_last (machine s) step (p_of s) k.can.place last)
