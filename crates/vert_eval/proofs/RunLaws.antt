-- Runs one after another.
use Rattle.std.proofs.Common.{◌≡◌, ℕ, ◌+◌, ◌<◌, suc, List, [], ◌∷◌, ◌++◌, length, map, drop, get_or, refl, sym, ap, ◌∙◌, append_assoc, add-one, drop-cons}
use Rattle.std.specs.List.{flat_map}
use Rattle.std.proofs.lemmas.List.{map-append}
use Rattle.vert_base.specs.declared.graph.Edge.{Edge}
use Rattle.vert_tree.specs.declared.statement.Stmt.{Stmt}
use Rattle.slot_merge.specs.Combine.{Emission}
use Rattle.vert_eval.specs.declared.environment.Env.{Env}
use Rattle.vert_eval.specs.declared.environment.Flow.{Flow}
use Rattle.vert_eval.specs.declared.environment.Flow.TheVariants.{Going, Broke}
use Rattle.vert_eval.specs.Runs.{Act, Ran, after, by_flow, followed_by, in_turn}
use Rattle.vert_eval.specs.Rounds.{Scene, loop, member_act}

-- what follows a run that goes on, and one that broke
pub followed-Going : (r : Ran) (next : Act) → r.flow ≡ Going → followed_by r next ≡ after r (next r.env)
followed-Going r next goes = ap (λ f. by_flow f r (after r (next r.env))) goes

pub followed-Broke : (r : Ran) (next : Act) → r.flow ≡ Broke → followed_by r next ≡ r
followed-Broke r next broke = ap (λ f. by_flow f r (after r (next r.env))) broke

pub after_assoc : (a b c : Ran) → after a (after b c) ≡ after (after a b) c
after_assoc a b c =
    ap (λ es. record c { emitted = es; reads = a.reads ++ (b.reads ++ c.reads) })
    (sym (append_assoc a.emitted b.emitted c.emitted))
    ∙ ap (λ us. record c { emitted = (a.emitted ++ b.emitted) ++ c.emitted; reads = us })
    (sym (append_assoc a.reads b.reads c.reads))

pub after_followed : (a : Ran) (env : Env) (es : List Emission) (us : List ℕ) (flow : Flow) (next : Act) →
    let r : Ran = record { env = env; emitted = es; reads = us; flow = flow } in
    after a (followed_by r next) ≡ followed_by (after a r) next
after_followed a env es us Broke next = refl
after_followed a env es us Going next = after_assoc a (record { env = env; emitted = es; reads = us; flow = Going })
    (next env)

pub followed_assoc : (env : Env) (es : List Emission) (us : List ℕ) (flow : Flow) (f g : Act) →
    let r : Ran = record { env = env; emitted = es; reads = us; flow = flow } in
    followed_by r (λ e. followed_by (f e) g) ≡ followed_by (followed_by r f) g
followed_assoc env es us Broke f g = refl
followed_assoc env es us Going f g =
    let q = f env in
    after_followed (record { env = env; emitted = es; reads = us; flow = Going }) q.env q.emitted q.reads q.flow g

by_next : (r : Ran) (f g : Act) → ((e : Env) → f e ≡ g e) → followed_by r f ≡ followed_by r g
by_next r f g same = ap (λ x. by_flow r.flow r (after r x)) (same r.env)

-- the first part, and then the second unless the first broke
pub in_turn-append : (first second : List Act) (env : Env) →
    in_turn (first ++ second) env ≡ followed_by (in_turn first env) (in_turn second)
in_turn-append [] second env = refl
in_turn-append (act ∷ rest) second env =
    let r = act env in
    by_next r (λ e. in_turn (rest ++ second) e) (λ e. followed_by (in_turn rest e) (in_turn second))
    (in_turn-append rest second)
    ∙ followed_assoc r.env r.emitted r.reads r.flow (in_turn rest) (in_turn second)

-- the law of split loops
pub loop-append : (s : Scene) (body : List Stmt) (first second : List Edge) (env : Env) →
    loop s body (first ++ second) env ≡ followed_by (loop s body first env) (loop s body second)
loop-append s body first second env =
    ap (λ acts. in_turn acts env) (map-append (member_act s body) first second)
    ∙ in_turn-append (map (member_act s body) first) (map (member_act s body) second) env

pub loop-parts : (s : Scene) (body : List Stmt) (part : ℕ → List Edge) (numbers : List ℕ) (env : Env) →
    loop s body (flat_map part numbers) env ≡ in_turn (map (λ m. loop s body (part m)) numbers) env
loop-parts s body part [] env = refl
loop-parts s body part (m ∷ ms) env =
    loop-append s body (part m) (flat_map part ms) env
    ∙ by_next (loop s body (part m) env) (loop s body (flat_map part ms))
    (in_turn (map (λ k. loop s body (part k)) ms)) (loop-parts s body part ms)

-- the act at a place, and those behind it
module _ {X : Type 0} (act : X → Act) (xs : List X) (i : ℕ) (x : X) (env : Env) (lt : i < length xs)
    (is : x ≡ get_or xs i x) where
  turn_at : in_turn (map act (drop i xs)) env ≡ followed_by (act x env) (in_turn (map act (drop (i + 1) xs)))
  turn_at =
      ap (λ ys. in_turn (map act ys) env) (drop-cons xs i x lt)
      ∙ ap (λ y. followed_by (act y env) (in_turn (map act (drop (suc i) xs)))) (sym is)
      ∙ ap (λ k. followed_by (act x env) (in_turn (map act (drop k xs)))) (sym (add-one i))

  pub turn_going :
      (left : Env) → left ≡ (act x env).env → Going ≡ (act x env).flow →
      in_turn (map act (drop i xs)) env ≡ after (act x env) (in_turn (map act (drop (i + 1) xs)) left)
  turn_going left e goes =
      turn_at
      ∙ followed-Going (act x env) (in_turn (map act (drop (i + 1) xs))) (sym goes)
      ∙ ap (λ y. after (act x env) (in_turn (map act (drop (i + 1) xs)) y)) (sym e)

  pub turn_broke : Broke ≡ (act x env).flow → in_turn (map act (drop i xs)) env ≡ act x env
  turn_broke broke = turn_at ∙ followed-Broke (act x env) (in_turn (map act (drop (i + 1) xs))) (sym broke)
