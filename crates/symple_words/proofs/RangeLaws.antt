-- A line's numbers are in their ranges.
use Rattle.std.proofs.Common.{◌≡◌, ◌∙◌, ◌≤◌, ◌&&◌, ◌||◌, ℕ, Bool, cond, true, false, not, refl, sym, ap, subst, arith, Option, Some, None, is_some, nat_le, true≢false, codes}
use Rattle.std.specs.Prelude.{option_map, option_and_then, unwrap_or}
use Rattle.std.specs.Option.{ForSome}
use Rattle.std.specs.Str.Parse.{digits_value}
use Rattle.std.proofs.lemmas.Grind.{common_steps}
use Rattle.std.proofs.lemmas.Bool.{and_parts}
use Rattle.vert_base.specs.declared.limits.TheConstants.{MACHINES, VERTICES}
use Rattle.symple_words.specs.Texts.{Text}
use Rattle.symple_words.specs.Spelling.{Given, value_at, has_given}
use Rattle.symple_words.specs.Numbers.{is_number, number_in, number_if, number_or}
use Rattle.symple_words.specs.Lines.{PlainJob, PlainLine, graph_form_by, graph_form_from, lines_from, machines_from, machines_or_four, draws_from, job_by, job_from, run_by, record_by, replay_by, resume_by, one_text, two_texts, plan_by, demo_by, split_by, line_from, ShowOf, FreeOf, RenewOf, WorkerOf}
use Rattle.symple_words.specs.Ranges.{AreMachines, IsGraphForm, IsWithin}
use Rattle.symple_words.specs.declared.line.GraphForm.{GraphForm}
use Rattle.symple_words.specs.declared.verb.Verb.{Verb}
use Rattle.symple_words.specs.declared.verb.Verb.TheVariants as verb

-- None is no Some
never : {X : Type 0} {P : Type 0} (x : X) → None ≡ Some x → P
never x e = absurd (true≢false (ap is_some (sym e)))

same : {X : Type 0} (x y : X) → Some x ≡ Some y → x ≡ y
same x y e = ap (λ o. unwrap_or o x) e

in_range : (low high : ℕ) (text : Text) (n : ℕ) → number_in low high text ≡ Some n → (low ≤ n) × (n ≤ high)
in_range low high text n e = go (is_number text && (nat_le low value && nat_le value high)) refl e
  where
    value : ℕ
    value = digits_value 10 text

    go : (b : Bool) → (is_number text && (nat_le low (digits_value 10 text) && nat_le (digits_value 10 text) high)) ≡ b
        → cond b (Some (digits_value 10 text)) None ≡ Some n → (low ≤ n) × (n ≤ high)
    go false h e' = never n e'
    go true h e' =
        let parts = and_parts (nat_le low (digits_value 10 text)) (nat_le (digits_value 10 text) high)
        (and_parts (is_number text) _ h).1 in
        subst (λ v. (low ≤ v) × (v ≤ high)) (same _ n e') (grind (arith, common_steps), grind (arith, common_steps))

are_machines : (given : Given) (n : ℕ) → machines_from given ≡ Some n → AreMachines n
are_machines given n e = go (value_at (codes "machines") given) e
  where
    go : (o : Option Text) → option_and_then (number_in 1 MACHINES) o ≡ Some n → AreMachines n
    go None h = never n h
    go (Some text) h = in_range 1 MACHINES text n h

are_machines_or_four : (given : Given) (n : ℕ) → machines_or_four given ≡ Some n → AreMachines n
are_machines_or_four given n e = go (value_at (codes "machines") given) e
  where
    go : (o : Option Text) → number_or 4 1 MACHINES o ≡ Some n → AreMachines n
    go None h = let four = same 4 n h in (omega arith, omega arith)
    go (Some text) h = in_range 1 MACHINES text n h

few_vertices : (text : Option Text) (v : Option ℕ) → number_if 0 VERTICES text ≡ Some v → ForSome v (λ n. n ≤ VERTICES)
few_vertices None v e x is = never x (same None v e ∙ is)
few_vertices (Some text) v e x is = go (number_in 0 VERTICES text) refl e
  where
    go : (o : Option ℕ) → number_in 0 VERTICES text ≡ o → option_map Some o ≡ Some v → x ≤ VERTICES
    go None at h = never v h
    go (Some n) at h = subst (λ m. m ≤ VERTICES) (same n x (same (Some n) v h ∙ is)) (in_range 0 VERTICES text n at).1

form_within : (both binary weighted : Bool) (vertices : Option ℕ) (form : GraphForm) →
    ForSome vertices (λ n. n ≤ VERTICES)
    → cond ((weighted && not binary) || (is_some vertices && binary)) None
    (Some (record { vertices = vertices; both = both; binary = binary; weighted = weighted })) ≡ Some form
    → IsGraphForm form
form_within both true true (Some v) form few e = never form e
form_within both true true None form few e = subst IsGraphForm (same _ form e)
    (record { vertices = few; text = λ h. refl; binary = λ h. refl })
form_within both false true v form few e = never form e
form_within both true false (Some v) form few e = never form e
form_within both true false None form few e = subst IsGraphForm (same _ form e)
    (record { vertices = few; text = λ h. refl; binary = λ h. refl })
form_within both false false (Some v) form few e = subst IsGraphForm (same _ form e)
    (record { vertices = few; text = λ h. absurd (true≢false (sym h)); binary = λ h. absurd (true≢false (sym h)) })
form_within both false false None form few e = subst IsGraphForm (same _ form e)
    (record { vertices = few; text = λ h. refl; binary = λ h. absurd (true≢false (sym h)) })

is_graph_form : (given : Given) (form : GraphForm) → graph_form_from given ≡ Some form → IsGraphForm form
is_graph_form given form e = go (number_if 0 VERTICES (value_at (codes "vertices") given)) refl e
  where
    go : (o : Option (Option ℕ)) → number_if 0 VERTICES (value_at (codes "vertices") given) ≡ o
        → graph_form_by o (has_given (codes "both") given) (has_given (codes "binary") given)
        (has_given (codes "weighted") given) ≡ Some form → IsGraphForm form
    go None at h = never form h
    go (Some v) at h = form_within (has_given (codes "both") given) (has_given (codes "binary") given)
        (has_given (codes "weighted") given) v form
        (few_vertices (value_at (codes "vertices") given) v at) h

job_within : (given : Given) (job : PlainJob) → job_from given ≡ Some job → IsGraphForm job.form
job_within given job e = go (value_at (codes "program") given) (value_at (codes "graph") given)
    (graph_form_from given) (draws_from given) refl e
  where
    go : (program graph : Option Text) (form : Option GraphForm) (draws : Option ℕ) → graph_form_from given ≡ form
        → job_by program graph form (lines_from given) draws ≡ Some job → IsGraphForm job.form
    go None graph form draws at h = never job h
    go (Some p) None form draws at h = never job h
    go (Some p) (Some g) None draws at h = never job h
    go (Some p) (Some g) (Some f) None at h = never job h
    go (Some p) (Some g) (Some f) (Some d) at h = subst (λ (j : PlainJob). IsGraphForm j.form) (same _ job h)
        (is_graph_form given f at)

-- ---- the lines

one_within : (make : Text → PlainLine) → ((t : Text) → IsWithin (make t)) → (o : Option Text) (line : PlainLine) →
    one_text make o ≡ Some line → IsWithin line
one_within make right None line e = never line e
one_within make right (Some t) line e = subst IsWithin (same _ line e) (right t)

two_within : (make : Text → Text → PlainLine) → ((t u : Text) → IsWithin (make t u)) →
    (o p : Option Text) (line : PlainLine) → two_texts make o p ≡ Some line → IsWithin line
two_within make right None p line e = never line e
two_within make right (Some t) None line e = never line e
two_within make right (Some t) (Some u) line e = subst IsWithin (same _ line e) (right t u)

abbrev Forms : Option PlainJob → Type 0
Forms o = (job : PlainJob) → o ≡ Some job → IsGraphForm job.form

abbrev Machines : Option ℕ → Type 0
Machines o = (n : ℕ) → o ≡ Some n → AreMachines n

run_within : (job : Option PlainJob) (machines : Option ℕ) (image : Option Text) (line : PlainLine) → Forms job →
    Machines machines
    → run_by job machines image ≡ Some line → IsWithin line
run_within None m image line f g e = never line e
run_within (Some j) None image line f g e = never line e
run_within (Some j) (Some n) image line f g e = subst IsWithin (same _ line e) (f j refl, g n refl)

module _ (lossy : Bool) (line : PlainLine) where
  record_within : (job : Option PlainJob) (schedule : Option Text) (machines seed : Option ℕ) → Forms job →
      Machines machines → record_by job schedule machines seed lossy ≡ Some line → IsWithin line
  record_within None s m k f g e = never line e
  record_within (Some j) None m k f g e = never line e
  record_within (Some j) (Some s) None k f g e = never line e
  record_within (Some j) (Some s) (Some n) None f g e = never line e
  record_within (Some j) (Some s) (Some n) (Some k) f g e = subst IsWithin (same _ line e) (f j refl, g n refl)

replay_within : (job : Option PlainJob) (schedule : Option Text) (line : PlainLine) → Forms job
    → replay_by job schedule ≡ Some line → IsWithin line
replay_within None s line f e = never line e
replay_within (Some j) None line f e = never line e
replay_within (Some j) (Some s) line f e = subst IsWithin (same _ line e) (f j refl)

resume_within : (job : Option PlainJob) (image : Option Text) (machines : Option ℕ) (line : PlainLine) → Forms job →
    Machines machines
    → resume_by job image machines ≡ Some line → IsWithin line
resume_within None i m line f g e = never line e
resume_within (Some j) None m line f g e = never line e
resume_within (Some j) (Some i) None line f g e = never line e
resume_within (Some j) (Some i) (Some n) line f g e = subst IsWithin (same _ line e) (f j refl, g n refl)

plan_within : (graph : Option Text) (form : Option GraphForm) (machines : Option ℕ) (line : PlainLine) →
    ((x : GraphForm) → form ≡ Some x → IsGraphForm x) → Machines machines
    → plan_by graph form machines ≡ Some line → IsWithin line
plan_within None form m line f g e = never line e
plan_within (Some t) None m line f g e = never line e
plan_within (Some t) (Some x) None line f g e = never line e
plan_within (Some t) (Some x) (Some n) line f g e = subst IsWithin (same _ line e) (f x refl, g n refl)

demo_within : (seed machines : Option ℕ) (line : PlainLine) → Machines machines → demo_by seed machines ≡ Some line →
    IsWithin line
demo_within None m line g e = never line e
demo_within (Some k) None line g e = never line e
demo_within (Some k) (Some n) line g e = subst IsWithin (same _ line e) (g n refl)

module _ (line : PlainLine) where
  split_within : (program graph prefix : Option Text) (form : Option GraphForm) (machines draws : Option ℕ) →
      ((x : GraphForm) → form ≡ Some x → IsGraphForm x) × Machines machines →
      split_by program graph prefix form machines draws ≡ Some line → IsWithin line
  split_within None g p form m d fits e = never line e
  split_within (Some t) None p form m d fits e = never line e
  split_within (Some t) (Some u) None form m d fits e = never line e
  split_within (Some t) (Some u) (Some v) None m d fits e = never line e
  split_within (Some t) (Some u) (Some v) (Some x) None d fits e = never line e
  split_within (Some t) (Some u) (Some v) (Some x) (Some n) None fits e = never line e
  split_within (Some t) (Some u) (Some v) (Some x) (Some n) (Some k) fits e = subst IsWithin (same _ line e)
      (fits.0 x refl, fits.1 n refl)

-- the line of a command is within the ranges of its numbers
pub line_within : (v : Verb) (given : Given) (line : PlainLine) → line_from v given ≡ Some line → IsWithin line
line_within verb.Run given line e = run_within _ _ _ line (job_within given) (are_machines given) e
line_within verb.Record given line e = record_within _ line _ _ _ _ (job_within given) (are_machines given) e
line_within verb.Replay given line e = replay_within _ _ line (job_within given) e
line_within verb.Resume given line e = resume_within _ _ _ line (job_within given) (are_machines given) e
line_within verb.Show given line e = one_within ShowOf (λ t. tt) _ line e
line_within verb.Free given line e = one_within FreeOf (λ t. tt) _ line e
line_within verb.Plan given line e = plan_within _ _ _ line (is_graph_form given) (are_machines given) e
line_within verb.Demo given line e = demo_within _ _ line (are_machines_or_four given) e
line_within verb.Renew given line e = two_within RenewOf (λ t u. tt) _ _ line e
line_within verb.Split given line e = split_within line _ _ _ _ _ _ (is_graph_form given, are_machines given) e
line_within verb.Worker given line e = two_within WorkerOf (λ t u. tt) _ _ line e
