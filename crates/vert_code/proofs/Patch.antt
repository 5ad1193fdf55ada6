-- A jump is written once its target is known.
use Rattle.std.proofs.Common.{◌≡◌, ℕ, ◌+◌, List, [], ◌∷◌, ◌++◌, length, sym, ap, ◌∙◌, arith, append_assoc, length-append, drop, suc, get_or, ◌<◌, drop-cons, add-one, None, Some}
use Rattle.std.specs.Prelude.{slice_set}
use Rattle.std.proofs.Math.Seq.{set-append_seam}
use Rattle.std.specs.Global.{Vec}
use Rattle.vert_base.specs.declared.text.Span.{Span}
use Rattle.vert_tree.specs.declared.expression.Expr.{Expr}
use Rattle.vert_tree.specs.declared.statement.Stmt.{Stmt}
use Rattle.vert_tree.specs.declared.statement.Stmt as statements
use Rattle.vert_tree.specs.declared.statement.Stmt.TheOpen as level
use Rattle.vert_tree.specs.declared.statement.Stmt.TheFolds.{fold-roll-Stmt}
use Rattle.vert_code.specs.declared.instr.Instr.{Instr}
use Rattle.vert_code.specs.declared.instr.Instr.TheVariants.{Jump, JumpUnless}
use Rattle.vert_code.specs.Listing.{Piece, body_code, choice, expr_code, level_code, only_if, stmt_code}

-- a list after a fork, a branch, and the fork's target
pub patch_only_if :
    (base : List Instr) (test held : Piece) (c1 c2 c3 : List Instr) (x : Instr) (fork target : ℕ) →
    c1 ≡ base ++ test (length base) → fork ≡ length c1 → c2 ≡ c1 ++ x ∷ [] → c3 ≡ c2 ++ held (length c2) →
    target ≡ length c3 →
    slice_set c3 fork (JumpUnless target) ≡ base ++ only_if test held (length base)
patch_only_if base test held c1 c2 c3 x fork target e1 f e2 e3 t =
    let tested = test (length base) in
    let i = JumpUnless target in
    let l1 : length c1 ≡ length base + length tested = ap length e1 ∙ length-append base tested in
    let l2 : length c2 ≡ length c1 + 1 = ap length e2 ∙ length-append c1 (x ∷ []) in
    let at : length c2 ≡ length base + length tested + 1 = omega arith in
    let branch = held (length base + length tested + 1) in
    let l3 : length c3 ≡ length c2 + length (held (length c2)) = ap length e3 ∙ length-append c2 (held (length c2)) in
    let l3' : target ≡ length base + length tested + 1 + length branch =
    t ∙ l3 ∙ ap (λ (n : ℕ). n + length (held n)) at in
    let flat : c3 ≡ c1 ++ x ∷ branch = e3 ∙ ap (λ (n : ℕ). c2 ++ held n) at ∙ ap (λ (l : List Instr). l ++ branch) e2
    ∙ append_assoc c1 (x ∷ []) branch in
    ap (λ (l : List Instr). slice_set l fork i) flat
    ∙ ap (λ (n : ℕ). slice_set (c1 ++ x ∷ branch) n i) f
    ∙ set-append_seam c1 x branch i
    ∙ ap (λ (l : List Instr). l ++ i ∷ branch) e1
    ∙ append_assoc base tested (i ∷ branch)
    ∙ ap (λ (n : ℕ). base ++ (tested ++ JumpUnless n ∷ branch)) l3'

-- a list after a fork, a branch, a leap, the fork's target, the second branch, and the leap's target
pub patch_choice :
    (base : List Instr) (test held otherwise : Piece) (c1 c2 c3 c4 c5 c6 : List Instr) (x y : Instr)
    (fork leap second end : ℕ) →
    c1 ≡ base ++ test (length base) → fork ≡ length c1 → c2 ≡ c1 ++ x ∷ [] → c3 ≡ c2 ++ held (length c2) →
    leap ≡ length c3 → c4 ≡ c3 ++ y ∷ [] →
    second ≡ length c4 → c5 ≡ slice_set c4 fork (JumpUnless second) → c6 ≡ c5 ++ otherwise (length c5) →
    end ≡ length c6 →
    slice_set c6 leap (Jump end) ≡ base ++ choice test held otherwise (length base)
patch_choice base test held otherwise c1 c2 c3 c4 c5 c6 x y fork leap second end e1 f e2 e3 l e4 s e5 e6 t =
    let tested = test (length base) in
    let l1 : length c1 ≡ length base + length tested = ap length e1 ∙ length-append base tested in
    let l2 : length c2 ≡ length c1 + 1 = ap length e2 ∙ length-append c1 (x ∷ []) in
    let at : length c2 ≡ length base + length tested + 1 = omega arith in
    let branch = held (length base + length tested + 1) in
    let l3 : length c3 ≡ length c2 + length (held (length c2)) = ap length e3 ∙ length-append c2 (held (length c2)) in
    let l3' : length c3 ≡ length base + length tested + 1 + length branch =
    l3 ∙ ap (λ (n : ℕ). n + length (held n)) at in
    let l4 : length c4 ≡ length c3 + 1 = ap length e4 ∙ length-append c3 (y ∷ []) in
    let to = length base + length tested + 1 + length branch + 1 in
    let is_to : second ≡ to = omega arith in
    let i = JumpUnless to in
    let flat3 : c3 ≡ c1 ++ x ∷ branch = e3 ∙ ap (λ (n : ℕ). c2 ++ held n) at ∙ ap (λ (l : List Instr). l ++ branch) e2
    ∙ append_assoc c1 (x ∷ []) branch in
    let flat4 : c4 ≡ c1 ++ x ∷ (branch ++ y ∷ []) = e4 ∙ ap (λ (l : List Instr). l ++ y ∷ []) flat3
    ∙ append_assoc c1 (x ∷ branch) (y ∷ []) in
    let flat5 : c5 ≡ c1 ++ i ∷ (branch ++ y ∷ []) =
    e5
    ∙ ap (λ (l : List Instr). slice_set l fork (JumpUnless second)) flat4
    ∙ ap (λ (n : ℕ). slice_set (c1 ++ x ∷ (branch ++ y ∷ [])) n (JumpUnless second)) f
    ∙ set-append_seam c1 x (branch ++ y ∷ []) (JumpUnless second)
    ∙ ap (λ (n : ℕ). c1 ++ JumpUnless n ∷ (branch ++ y ∷ [])) is_to in
    let front : c5 ≡ (c1 ++ i ∷ branch) ++ y ∷ [] = flat5 ∙ sym (append_assoc c1 (i ∷ branch) (y ∷ [])) in
    let l5 : length c5 ≡ to = ap length flat5 ∙ length-append c1 (i ∷ (branch ++ y ∷ []))
    ∙ sizes (length c1) branch y (length base + length tested) l1 in
    let rest = otherwise to in
    let flat6 : c6 ≡ (c1 ++ i ∷ branch) ++ y ∷ rest = e6 ∙ ap (λ (n : ℕ). c5 ++ otherwise n) l5
    ∙ ap (λ (l : List Instr). l ++ rest) front ∙ append_assoc (c1 ++ i ∷ branch) (y ∷ []) rest in
    let is_end : end ≡ to + length rest = t ∙ ap length e6 ∙ length-append c5 (otherwise (length c5))
    ∙ ap (λ (n : ℕ). n + length (otherwise n)) l5 in
    let is_leap : leap ≡ length (c1 ++ i ∷ branch) = l ∙ ap length flat3 ∙ length-append c1 (x ∷ branch)
    ∙ sym (length-append c1 (i ∷ branch)) in
    ap (λ (l : List Instr). slice_set l leap (Jump end)) flat6
    ∙ ap (λ (n : ℕ). slice_set ((c1 ++ i ∷ branch) ++ y ∷ rest) n (Jump end)) is_leap
    ∙ set-append_seam (c1 ++ i ∷ branch) y rest (Jump end)
    ∙ ap (λ (n : ℕ). (c1 ++ i ∷ branch) ++ Jump n ∷ rest) is_end
    ∙ append_assoc c1 (i ∷ branch) (Jump (to + length rest) ∷ rest)
    ∙ ap (λ (l : List Instr). l ++ i ∷ (branch ++ Jump (to + length rest) ∷ rest)) e1
    ∙ append_assoc base tested (i ∷ (branch ++ Jump (to + length rest) ∷ rest))
  where
    sizes : (n : ℕ) (branch : List Instr) (y : Instr) (m : ℕ) → n ≡ m → n + length (JumpUnless 0 ∷ (branch ++ y ∷ []))
        ≡ m + 1 + length branch + 1
    sizes n branch y m e = omega (arith, length-append branch (y ∷ []))

-- the pieces that are left, behind one more
pub joined_turn :
    (body : List Stmt) (i : ℕ) (x : Stmt) → i < length body → x ≡ get_or body i x → (start before after : List Instr) →
    after ≡ before ++ stmt_code x (length before) →
    before ++ body_code (drop i body) (length before) ≡ start →
    after ++ body_code (drop (i + 1) body) (length after) ≡ start
joined_turn body i x lt is start before after e same =
    let rest = drop (i + 1) body in
    let head : drop i body ≡ x ∷ rest = drop-cons body i x lt ∙ ap (λ (y : Stmt). y ∷ drop (suc i) body) (sym is)
    ∙ ap (λ (n : ℕ). x ∷ drop n body) (sym (add-one i)) in
    let one = stmt_code x (length before) in
    let size : length after ≡ length before + length one = ap length e ∙ length-append before one in
    ap (λ (n : ℕ). after ++ body_code rest n) size
    ∙ ap (λ (l : List Instr). l ++ body_code rest (length before + length one)) e
    ∙ append_assoc before one (body_code rest (length before + length one))
    ∙ ap (λ (l : List Stmt). before ++ body_code l (length before)) (sym head)
    ∙ same

-- the code of an `if`
pub stmt_code-if : (s : Span) (test : Expr) (held : Vec Stmt) → stmt_code (statements.If s test held None)
    ≡ only_if (expr_code test) (body_code held.items)
unfolding statements.roll-Stmt denote.Hole.Carrier.roll
stmt_code-if s test held = fold-roll-Stmt Piece level_code (level.If s test held None)

pub stmt_code-if_else : (s : Span) (test : Expr) (held otherwise : Vec Stmt) →
    stmt_code (statements.If s test held (Some otherwise))
    ≡ choice (expr_code test) (body_code held.items) (body_code otherwise.items)
unfolding statements.roll-Stmt denote.Hole.Carrier.roll
stmt_code-if_else s test held otherwise = fold-roll-Stmt Piece level_code (level.If s test held (Some otherwise))
