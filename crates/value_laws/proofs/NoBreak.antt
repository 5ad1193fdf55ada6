-- A body in which no break stands goes on.
use Rattle.std.proofs.Common.{◌≡◌, Bool, true, false, List, [], ◌∷◌, ◌++◌, map, refl, sym, ap, subst, ◌∙◌, Some, None}
use Rattle.std.specs.Prelude.{if◌then◌else◌}
use Rattle.vert_tree.specs.declared.statement.Stmt.{Stmt, Stmt-F}
use Rattle.vert_tree.specs.declared.statement.Stmt.TheOpen as level
use Rattle.vert_tree.specs.declared.statement.Stmt.TheVariants.{rolls-If, rolls-Break}
use Rattle.vert_tree.specs.declared.statement.Stmt.TheViews.{roll-Stmt}
use Rattle.vert_tree.specs.declared.statement.Stmt.TheFolds.{fold-roll-Stmt, ind-Stmt, map-Stmt}
use Rattle.carry_analysis.specs.Classes.{Mark, Uses, Breaks, body_marks, expr_marks, has_break, statement_marks}
use Rattle.carry_analysis.proofs.StatementMarks.{marks-if, marks-if_else}
use Rattle.vert_eval.specs.declared.environment.Env.{Env}
use Rattle.vert_eval.specs.declared.environment.Flow.TheVariants.{Going}
use Rattle.vert_eval.specs.Rounds.{at_member, loop, member_act}
use Rattle.vert_eval.specs.Runs.{Act, act_of, act_step, followed_by, in_turn, leaves, run}
use Rattle.vert_eval.specs.Values.{value_of}
use Rattle.vert_eval.specs.Words.{is_set}
use Rattle.vert_eval.proofs.RunLaws.{followed-Going}
use Rattle.value_laws.specs.Laws.{LoopsGoOn, RunsGoOn}

no_break_parts : (a b : List Mark) → has_break (a ++ b) ≡ false → (has_break a ≡ false) × (has_break b ≡ false)
no_break_parts [] b h = (refl, h)
no_break_parts (Uses i u ∷ a) b h = no_break_parts a b h
no_break_parts (Breaks ∷ a) b h = cc

abbrev Goes : Act → Type 0
Goes act = (env : Env) → (act env).flow ≡ Going

goes_next : (f g : Act) → Goes f → Goes g → Goes (λ env. followed_by (f env) g)
goes_next f g p q env = ap (λ r. r.flow) (followed-Going (f env) g (p env)) ∙ q (f env).env

goes_choice : (test : Env → Bool) (f g : Act) → Goes f → Goes g → Goes (λ env. if test env then f env else g env)
goes_choice test f g p q env = by (test env)
  where
    by : (b : Bool) → (if b then f env else g env).flow ≡ Going
    by true = p env
    by false = q env

abbrev Held : Type 0
Held = (s : Stmt) × (has_break (statement_marks s) ≡ false → Goes (act_of s))

abbrev stmts : List Held → List Stmt
stmts ss = map (λ s. s.0) ss

abbrev below : Stmt-F Held → Stmt-F Stmt
below y = map-Stmt Held Stmt (λ s. s.0) y

all_go : (ss : List Held) → has_break (body_marks (stmts ss)) ≡ false → Goes (in_turn (map act_of (stmts ss)))
all_go [] h = λ env. refl
all_go (s ∷ ss) h =
    let both = no_break_parts (statement_marks s.0) (body_marks (stmts ss)) h in
    goes_next (act_of s.0) (in_turn (map act_of (stmts ss))) (s.1 both.0) (all_go ss both.1)

-- the marks of one statement, where a break can stand in it
abbrev level_marks : Stmt-F Stmt → List Mark
level_marks (level.If at test held None) = expr_marks test ++ (body_marks held.items ++ [])
level_marks (level.If at test held (Some other)) = expr_marks test ++ (body_marks held.items ++ body_marks other.items)
level_marks (level.Break at) = Breaks ∷ []
level_marks (level.Assign t op e) = []
level_marks (level.SetActive at e) = []
level_marks (level.Emit at slot e) = []

rolled_marks : (z : Stmt-F Stmt) → has_break (statement_marks (roll-Stmt z)) ≡ false → has_break (level_marks z) ≡ false
rolled_marks (level.If at test held None) h =
    subst (λ l. has_break l ≡ false) (ap statement_marks (rolls-If at test held None) ∙ marks-if at test held) h
rolled_marks (level.If at test held (Some other)) h =
    subst (λ l. has_break l ≡ false)
    (ap statement_marks (rolls-If at test held (Some other)) ∙ marks-if_else at test held other) h
rolled_marks (level.Break at) h = subst (λ s. has_break (statement_marks s) ≡ false) (rolls-Break at) h
rolled_marks (level.Assign t op e) h = refl
rolled_marks (level.SetActive at e) h = refl
rolled_marks (level.Emit at slot e) h = refl

level_goes : (y : Stmt-F Held) → has_break (level_marks (below y)) ≡ false →
    Goes (act_step (map-Stmt Stmt Act act_of (below y)))
level_goes (level.Assign t op e) h = λ env. refl
level_goes (level.SetActive at e) h = λ env. refl
level_goes (level.If at test held None) h =
    let body = no_break_parts (body_marks (stmts held.items)) []
    (no_break_parts (expr_marks test) (body_marks (stmts held.items) ++ []) h).1 in
    goes_choice (λ env. is_set (value_of test env)) (in_turn (map act_of (stmts held.items))) leaves
    (all_go held.items body.0) (λ env. refl)
level_goes (level.If at test held (Some other)) h =
    let body = no_break_parts (body_marks (stmts held.items)) (body_marks (stmts other.items))
    (no_break_parts (expr_marks test) (body_marks (stmts held.items) ++ body_marks (stmts other.items)) h).1 in
    goes_choice (λ env. is_set (value_of test env)) (in_turn (map act_of (stmts held.items)))
    (in_turn (map act_of (stmts other.items))) (all_go held.items body.0) (all_go other.items body.1)
level_goes (level.Emit at slot e) h = λ env. refl
level_goes (level.Break at) h = cc

act_goes : (s : Stmt) → has_break (statement_marks s) ≡ false → Goes (act_of s)
act_goes = ind-Stmt (λ s. has_break (statement_marks s) ≡ false → Goes (act_of s)) (λ x y is.
    subst (λ z. has_break (statement_marks (roll-Stmt z)) ≡ false → Goes (act_of (roll-Stmt z))) is
    (subst (λ act. has_break (statement_marks (roll-Stmt (below y))) ≡ false → Goes act)
    (sym (fold-roll-Stmt Act act_step (below y))) (λ h. level_goes y (rolled_marks (below y) h))))

pub run_goes : RunsGoOn
run_goes [] h env = refl
run_goes (s ∷ ss) h env =
    let both = no_break_parts (statement_marks s) (body_marks ss) h in
    goes_next (act_of s) (run ss) (act_goes s both.0) (run_goes ss both.1) env

pub loop_goes : LoopsGoOn
loop_goes s body h [] env = refl
loop_goes s body h (e ∷ es) env =
    goes_next (member_act s body e) (loop s body es) (λ at. run_goes body h (at_member s e at))
    (loop_goes s body h es) env
