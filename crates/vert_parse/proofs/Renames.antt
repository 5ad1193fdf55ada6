-- Names with new numbers tell the same.
use Rattle.std.proofs.Common.{◌≡◌, ◌<◌, ◌≤◌, ◌+◌, ℕ, zero, suc, Bool, true, false, ◌&&◌, List, [], ◌∷◌, ◌++◌, length, map, get_or, set, take, Option, None, Some, refl, sym, ap, ◌∙◌, arith, get_or-set_other}
use Rattle.std.specs.Prelude.{option_map, position, is_some}
use Rattle.std.specs.List.{list_all}
use Rattle.std.specs.Global.{Vec}
use Rattle.std.specs.String.{string_bytes}
use Rattle.std.specs.Str.{bytes_eq}
use Rattle.std.specs.Cmp.Lexicographic.{bytes_decides}
use Rattle.std.specs.declared.alloc.Global.{Global}
use Rattle.std.specs.declared.string.String.{String}
use Rattle.std.proofs.lemmas.Bool.{and_parts, and_from}
use Rattle.std.proofs.lemmas.List.{length-set, map-append, take_all, take_more, take_more_set}
use Rattle.std.proofs.lemmas.List.Quantifiers.{position-Some}
use Rattle.std.proofs.lemmas.Option.{slice_get-get_or}
use Rattle.std.proofs.lemmas.List.Folds.{list_all-append, list_all-map}
use Rattle.vert_base.specs.declared.text.Span.{Span}
use Rattle.vert_tree.specs.declared.expression.Expr.{Expr}
use Rattle.vert_tree.specs.declared.name.Ident.{Ident}
use Rattle.vert_tree.specs.declared.statement.Stmt.{Stmt}
use Rattle.vert_tree.specs.declared.statement.Stmt as statements
use Rattle.vert_tree.specs.declared.statement.Stmt.TheFolds.{fold-roll-Stmt}
use Rattle.vert_tree.specs.declared.statement.Stmt.TheOpen as level
use Rattle.vert_tree.specs.declared.statement.Stmt.TheVariants.{rolls-If}
use Rattle.vert_tree.specs.declared.program.Program.{Program}
use Rattle.vert_tree.specs.Places.{option_all}
use Rattle.vert_tree.specs.Views.{if_of, text_in, text_of, view, view_block, view_statement}
use Rattle.vert_grammar.specs.Reading.{block_of}
use Rattle.vert_parse.specs.Entered.{is_entered}
use Rattle.vert_parse.specs.Idents.{body_all, decl_all, dense_all, expr_all, level_all, program_all, slot_all, sparse_all, stmt_all, total_all}
use Rattle.tree_reader.proofs.Blocks.{block_view, if_view}

abbrev Names : Type 0
Names = List (String Global)

-- ---- one name
pub found_text : (used : Names) (text : List ℕ) (place : ℕ) → position (λ k. bytes_eq text (string_bytes k)) used
    ≡ Some place → text_of used place ≡ text
found_text [] text place e = absurd cc
found_text (x ∷ xs) text place e =
    let h = position-Some (λ k. bytes_eq text (string_bytes k)) (x ∷ xs) place x e in
    ap text_in (slice_get-get_or (x ∷ xs) place x h.0)
    ∙ sym ((bytes_decides text (string_bytes (get_or (x ∷ xs) place x))).0 h.1)

-- a text that is there has a place
pub not_lost : (used : Names) (text : List ℕ) (place : Option ℕ) → is_entered used text ≡ true →
    is_some place ≡ is_entered used text → place ≡ None → ⊥
not_lost used text place h found none = let e : is_some place ≡ false = ap is_some none in absurd cc

module _ {X : Type 0} (p : X → Bool) where
  pub all_at : (xs : List X) (i : ℕ) (d : X) → i < length xs → list_all p xs ≡ true → p (get_or xs i d) ≡ true
  all_at [] i d lt h = absurd (omega arith)
  all_at (x ∷ xs) zero d lt h = (and_parts (p x) (list_all p xs) h).0
  all_at (x ∷ xs) (suc i) d lt h = all_at xs i d (omega arith) (and_parts (p x) (list_all p xs) h).1

  pub all_with : (xs : List X) (i : ℕ) (x : X) → i < length xs → list_all p (take i xs) ≡ true → p x ≡ true →
      list_all p (take (i + 1) (set xs i x)) ≡ true
  all_with xs i x lt before here =
      ap (list_all p) (take_more_set xs i x lt) ∙ list_all-append p (take i xs) (x ∷ [])
      ∙ and_from (list_all p (take i xs)) (p x && true) before (and_from (p x) true here refl)

  pub all_whole : (xs : List X) (i : ℕ) → length xs ≤ i → list_all p (take i xs) ≡ true → list_all p xs ≡ true
  all_whole xs i le h = ap (list_all p) (sym (take_all i xs le)) ∙ h

module _ {X Y : Type 0} (f g : X → Y) where
  module _ (xs ys : List X) (i : ℕ) (x d : X) where
    pub same_with : i < length xs → i < length ys → map f (take i xs) ≡ map g (take i ys) →
        f x ≡ g (get_or ys i d) → map f (take (i + 1) (set xs i x)) ≡ map g (take (i + 1) ys)
    same_with lx ly before here =
        ap (map f) (take_more_set xs i x lx) ∙ map-append f (take i xs) (x ∷ [])
        ∙ ap (λ l. l ++ f x ∷ []) before ∙ ap (λ y. map g (take i ys) ++ y ∷ []) here
        ∙ sym (map-append g (take i ys) (get_or ys i d ∷ [])) ∙ ap (map g) (sym (take_more ys i d ly))

  pub same_whole : (xs ys : List X) (i : ℕ) → length xs ≤ i → length ys ≤ i → map f (take i xs) ≡ map g (take i ys) →
      map f xs ≡ map g ys
  same_whole xs ys i lx ly h = ap (map f) (sym (take_all i xs lx)) ∙ h ∙ ap (map g) (take_all i ys ly)

module _ {X : Type 0} (xs ys : List X) (i : ℕ) (x : X) where
  -- a write at i leaves what comes behind as it was
  pub unvisited_after :
      (length xs ≡ length ys) × ((k : ℕ) (d : X) → i ≤ k → get_or xs k d ≡ get_or ys k d) →
      (length (set xs i x) ≡ length ys) × ((k : ℕ) (d : X) → i + 1 ≤ k → get_or (set xs i x) k d ≡ get_or ys k d)
  unvisited_after h = (
    length-set xs i x ∙ h.0,
    λ k d le. let other : k ≡ i → ⊥ = λ e. omega arith in
        get_or-set_other xs i k x d other ∙ h.1 k d (omega arith),
  )

-- ---- statements
pub block_whole : (before after : Names) (xs ys : List Stmt) (i : ℕ) → length xs ≤ i → length ys ≤ i →
    map (view_statement after) (take i xs) ≡ map (view_statement before) (take i ys) →
    view_block after xs ≡ view_block before ys
block_whole before after xs ys i lx ly h =
    block_view after xs ∙ ap block_of (same_whole (view_statement after) (view_statement before) xs ys i lx ly h)
    ∙ sym (block_view before ys)

pub if_same :
    (before after : Names) (s s' : Span) (test test' : Expr) (held held' : Vec Stmt)
    (otherwise otherwise' : Option (Vec Stmt)) (stmt : Stmt) →
    stmt ≡ statements.If s test held otherwise → s' ≡ s → view after test' ≡ view before test →
    view_block after held'.items ≡ view_block before held.items →
    option_map (λ b. view_block after b.items) otherwise' ≡ option_map (λ b. view_block before b.items) otherwise →
    view_statement after (statements.If s' test' held' otherwise') ≡ view_statement before stmt
if_same before after s s' test test' held held' otherwise otherwise' stmt is at tests helds others =
    if_view after s' test' held' otherwise'
    ∙ ap (λ x. if_of x (view after test') (view_block after held'.items)
    (option_map (λ b. view_block after b.items) otherwise')) at
    ∙ ap (λ x. if_of s x (view_block after held'.items) (option_map (λ b. view_block after b.items) otherwise')) tests
    ∙ ap (λ x. if_of s (view before test) x (option_map (λ b. view_block after b.items) otherwise')) helds
    ∙ ap (if_of s (view before test) (view_block before held.items)) others
    ∙ sym (if_view before s test held otherwise)
    ∙ ap (view_statement before) (sym is)

module _ (p : Ident → Bool) where
  pub if_all :
      (s : Span) (test : Expr) (held : Vec Stmt) (otherwise : Option (Vec Stmt)) →
      expr_all p test ≡ true → body_all p held.items ≡ true → option_all (λ b. body_all p b.items) otherwise ≡ true →
      stmt_all p (statements.If s test held otherwise) ≡ true
  if_all s test held None tests helds others =
      ap (stmt_all p) (sym (rolls-If s test held None)) ∙ fold-roll-Stmt Bool (level_all p) (level.If s test held None)
      ∙ and_from _ _ tests (and_from _ _ (list_all-map (λ b. b) (stmt_all p) held.items ∙ helds) refl)
  if_all s test held (Some otherwise) tests helds others =
      ap (stmt_all p) (sym (rolls-If s test held (Some otherwise)))
      ∙ fold-roll-Stmt Bool (level_all p) (level.If s test held (Some otherwise))
      ∙ and_from _ _ tests (and_from _ _ (list_all-map (λ b. b) (stmt_all p) held.items ∙ helds)
      (list_all-map (λ b. b) (stmt_all p) otherwise.items ∙ others))

-- ---- programs
module _ (g h : Bool) where
  last_three : (a b c d e f : Bool) → (a && (b && (c && (d && (e && (f && (g && h))))))) ≡ true →
      (f ≡ true) × ((g ≡ true) × (h ≡ true))
  last_three true true true true true true k = (refl, and_parts g h k)
  last_three true true true true true false k = absurd cc
  last_three true true true true false f k = absurd cc
  last_three true true true false e f k = absurd cc
  last_three true true false d e f k = absurd cc
  last_three true false c d e f k = absurd cc
  last_three false b c d e f k = absurd cc

pub all_of : (p : Ident → Bool) (d : Program) → program_all p d ≡ true → (option_all (sparse_all p) d.sparse ≡ true) ×
    ((body_all p d.update.items ≡ true) × (option_all (expr_all p) d.stop ≡ true))
all_of p d =
    last_three (body_all p d.update.items) (option_all (expr_all p) d.stop) (list_all (decl_all p) d.fields.items)
    (list_all (slot_all p) d.slots.items) (list_all (total_all p) d.totals.items) (expr_all p d.start) (option_all
    (dense_all p) d.dense) (option_all (sparse_all p) d.sparse)
