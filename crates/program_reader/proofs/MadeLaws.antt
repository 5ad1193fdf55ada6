-- What is made of a tree tells that tree, and its names say what they stand for.
use Rattle.std.proofs.Common.{◌≡◌, ◌≤◌, ℕ, Bool, true, List, [], ◌∷◌, ◌++◌, ◌&&◌, length, map, Option, Some, None, refl, sym, ap, ap₂, subst, ◌∙◌, arith, length-append}
use Rattle.std.specs.Prelude.{flat_map}
use Rattle.std.specs.List.{AllByRecursion, list_all}
use Rattle.std.specs.declared.alloc.Global.{Global}
use Rattle.std.specs.declared.string.String.{String}
use Rattle.std.proofs.lemmas.List.{length-map}
use Rattle.vert_base.specs.declared.text.Span.{Span}
use Rattle.vert_lex.specs.declared.marks.TheConstants as mark
use Rattle.vert_lex.specs.declared.words.TheConstants as word
use Rattle.vert_lex.specs.Tokens.{Mark, Reserved}
use Rattle.vert_tree.specs.declared.name.Ident.{Ident}
use Rattle.vert_tree.specs.declared.name.What.{What}
use Rattle.vert_tree.specs.declared.name.What.TheVariants.{Unread, Field, Slot, Local, Send, Total}
use Rattle.vert_tree.specs.declared.expression.Expr.{Expr}
use Rattle.vert_tree.specs.declared.program.SlotDecl.{SlotDecl}
use Rattle.vert_tree.specs.declared.program.TotalDecl.{TotalDecl}
use Rattle.vert_tree.specs.declared.statement.AssignOp.{AssignOp}
use Rattle.vert_tree.specs.declared.statement.Stmt.{Stmt}
use Rattle.vert_tree.specs.declared.statement.Stmt as statements
use Rattle.vert_tree.specs.declared.statement.Stmt.TheFolds.{fold-roll-Stmt}
use Rattle.vert_tree.specs.declared.statement.Stmt.TheOpen as level
use Rattle.vert_tree.specs.declared.statement.Stmt.TheVariants.{rolls-Assign, rolls-SetActive, rolls-Emit, rolls-Break}
use Rattle.vert_tree.specs.Trees.{Named, Tree, Literal, Truth, Word, Variable, Got, Value, OtherField, OtherWord, Draw, Negative, Not, Pair, Choice, Least, Greatest, Group, Statement, Assign, SetActive, If, IfElse, Emit, Break, Statements, End, More, Declaration, SlotDeclaration, TotalDeclaration}
use Rattle.vert_tree.specs.Views.{text_of, view, view_block, view_declaration, view_name, view_slot, view_statement, view_total}
use Rattle.vert_tree.proofs.Rows.{view-If, view-If_else}
use Rattle.vert_types.specs.Filled.{body_filled, decl_filled, expr_filled, is_what, level_filled, name_filled, says, stmt_filled}
use Rattle.vert_types.proofs.FillLaws.{if_filled}
use Rattle.std.proofs.lemmas.Bool.{and_from}
use Rattle.vert_grammar.specs.Spelling.{spelled, spelled_block, spelled_statement}
use Rattle.vert_parse.specs.Names.{Texts, block_names, declaration_names, slot_names, statement_names, total_names, tree_names}
use Rattle.program_reader.proofs.Made.{make, make_block, make_declaration, make_name, make_slot, make_statement, make_total, make_vec, vec_items}

-- ---- lists
pub all_split : {X : Type 0} (P : X → Type 0) (xs ys : List X) → AllByRecursion P (xs ++ ys)
    → AllByRecursion P xs × AllByRecursion P ys
all_split P [] ys h = (tt, h)
all_split P (x ∷ xs) ys h = let rest = all_split P xs ys h.1 in ((h.0, rest.0), rest.1)

-- three and four parts that are the same
pub three : {A B C D : Type 0} (f : A → B → C → D) {a a' : A} {b b' : B} {c c' : C}
    → a ≡ a' → b ≡ b' → c ≡ c' → f a b c ≡ f a' b' c'
three f {a} {a'} {b} {b'} {c} {c'} p q r = ap₂ (λ x y. f x y c) p q ∙ ap (f a' b') r

pub four : {A B C D E : Type 0} (f : A → B → C → D → E) {a a' : A} {b b' : B} {c c' : C} {d d' : D}
    → a ≡ a' → b ≡ b' → c ≡ c' → d ≡ d' → f a b c d ≡ f a' b' c' d'
four f {a} {a'} {b} {b'} {c} {c'} {d} {d'} p q r s = three (λ x y z. f x y z d) p q r ∙ ap (f a' b' c') s

what_same : (x : What) → is_what x x ≡ true
what_same Unread = refl
what_same (Field i) = grind arith
what_same (Slot i) = grind arith
what_same (Local i) = grind arith
what_same (Send i) = grind arith
what_same (Total i) = grind arith

module _ (place : List ℕ → ℕ) (what : List ℕ → What) (names : List (String Global)) (w : ℕ → Option What) where
  -- the text stands at its place among the names, and what stands there is what it means
  pub record IsFound (text : List ℕ) : Type 0 where
    pub text_is : text_of names (place text) ≡ text
    pub what_is : w (place text) ≡ Some (what text)

  abbrev pub Found : Texts → Type 0
  Found = AllByRecursion IsFound

  abbrev pub parts : (xs ys : Texts) → Found (xs ++ ys) → Found xs × Found ys
  parts = all_split IsFound

  pub name_view : (name : Named) → IsFound name.text → view_name names (make_name place what name) ≡ name
  name_view name h = ap (λ t. let n : Named = record { span = name.span; text = t } in n) h.text_is

  pub name_good : (name : Named) → IsFound name.text → name_filled w (make_name place what name) ≡ true
  name_good name h = ap (says (what name.text)) h.what_is ∙ what_same (what name.text)

  -- ---- expressions
  abbrev pub IsMade : Tree → Type 0
  IsMade e = (view names (make place what e) ≡ e) × (expr_filled w (make place what e) ≡ true)

  pub made : (e : Tree) → Found (tree_names e) → IsMade e
  made (Literal s value) h = (refl, refl)
  made (Truth s value) h = (refl, refl)
  made (Word s word) h = (refl, refl)
  made (Variable s name) h = (ap (Variable s) (name_view name h.0), name_good name h.0)
  made (Got s name) h = (ap (Got s) (name_view name h.0), name_good name h.0)
  made (Value s name) h = (ap (Value s) (name_view name h.0), name_good name h.0)
  made (OtherField s name) h = (ap (OtherField s) (name_view name h.0), name_good name h.0)
  made (OtherWord s word) h = (refl, refl)
  made (Draw s at number) h = (refl, refl)
  made (Negative s inner) h = let a = made inner h in (ap (Negative s) a.0, a.1)
  made (Not s inner) h = let a = made inner h in (ap (Not s) a.0, a.1)
  made (Pair s op left right) h =
      let p = parts (tree_names left) (tree_names right) h in
      let a = made left p.0 in
      let b = made right p.1 in
      (ap₂ (Pair s op) a.0 b.0, and_from _ _ a.1 b.1)
  made (Choice s test held otherwise) h =
      let p = parts (tree_names test) (tree_names held ++ tree_names otherwise) h in
      let q = parts (tree_names held) (tree_names otherwise) p.1 in
      let a = made test p.0 in
      let b = made held q.0 in
      let c = made otherwise q.1 in
      (three (Choice s) a.0 b.0 c.0, and_from _ _ a.1 (and_from _ _ b.1 c.1))
  made (Least s left right) h =
      let p = parts (tree_names left) (tree_names right) h in
      let a = made left p.0 in
      let b = made right p.1 in
      (ap₂ (Least s) a.0 b.0, and_from _ _ a.1 b.1)
  made (Greatest s left right) h =
      let p = parts (tree_names left) (tree_names right) h in
      let a = made left p.0 in
      let b = made right p.1 in
      (ap₂ (Greatest s) a.0 b.0, and_from _ _ a.1 b.1)
  made (Group s inner) h = let a = made inner h in (ap (Group s) a.0, a.1)

  -- ---- statements
  abbrev IsMadeStatement : Statement → Type 0
  IsMadeStatement s =
      (view_statement names (make_statement place what s) ≡ s) × (stmt_filled w (make_statement place what s) ≡ true)

  abbrev pub AreMade : Statements → List Stmt → Type 0
  AreMade b items = (view_block names items ≡ b) × (body_filled w items ≡ true)

  assign_filled : (t : Ident) (op : AssignOp) (e : Expr) → name_filled w t ≡ true → expr_filled w e ≡ true
      → stmt_filled w (statements.Assign t op e) ≡ true
  assign_filled t op e a b =
      ap (stmt_filled w) (sym (rolls-Assign t op e))
      ∙ fold-roll-Stmt Bool (level_filled w) (level.Assign t op e) ∙ and_from _ _ a b

  active_filled : (s : Span) (e : Expr) → expr_filled w e ≡ true → stmt_filled w (statements.SetActive s e) ≡ true
  active_filled s e a =
      ap (stmt_filled w) (sym (rolls-SetActive s e))
      ∙ fold-roll-Stmt Bool (level_filled w) (level.SetActive s e) ∙ a

  emit_filled : (s : Span) (t : Ident) (e : Expr) → name_filled w t ≡ true → expr_filled w e ≡ true
      → stmt_filled w (statements.Emit s t e) ≡ true
  emit_filled s t e a b =
      ap (stmt_filled w) (sym (rolls-Emit s t e))
      ∙ fold-roll-Stmt Bool (level_filled w) (level.Emit s t e) ∙ and_from _ _ a b

  break_filled : (s : Span) → stmt_filled w (statements.Break s) ≡ true
  break_filled s = ap (stmt_filled w) (sym (rolls-Break s)) ∙ fold-roll-Stmt Bool (level_filled w) (level.Break s)

  statement_some : (s : Statement) → 1 ≤ length (spelled_statement s)
  statement_some (Assign target op value) = omega arith
  statement_some (SetActive s value) = omega arith
  statement_some (If s test held) = omega arith
  statement_some (IfElse s test held otherwise) = omega arith
  statement_some (Emit s slot value) = omega arith
  statement_some (Break s) = omega arith

  block_many : (b : Statements) → length (make_block place what b) ≤ length (spelled_block b)
  block_many End = omega arith
  block_many (More first others) =
      let h = block_many others in
      let both_long = length-append (spelled_statement first) (spelled_block others) in
      let some = statement_some first in
      omega (arith, h, both_long, some)

  block_few : (b : Statements) → length (spelled_block b) ≤ 65536 → length (make_block place what b) ≤ 65536
  block_few b few = let h = block_many b in omega (arith, h, few)

  as_items : (b : Statements) → length (spelled_block b) ≤ 65536 → AreMade b (make_block place what b)
      → AreMade b (make_vec (make_block place what b)).items
  as_items b few h = subst (AreMade b) (sym (vec_items (make_block place what b) (block_few b few))) h

  mutual
    made_statement : (s : Statement) → Found (statement_names s) → length (spelled_statement s) ≤ 65536
        → IsMadeStatement s
    made_statement (Assign target op value) h few =
        let a = made value h.1 in
        (ap₂ (λ t e. Assign t op e) (name_view target h.0) a.0, assign_filled _ op _ (name_good target h.0) a.1)
    made_statement (SetActive s value) h few = let a = made value h in (ap (SetActive s) a.0, active_filled s _ a.1)
    made_statement (If s test held) h few =
        let p = parts (tree_names test) (block_names held) h in
        let last = spelled_block held ++ Mark mark.RIGHT_BRACE ∷ [] in
        let inner = length-append (spelled test) (Mark mark.LEFT_BRACE ∷ last) in
        let front = length-append (spelled_block held) (Mark mark.RIGHT_BRACE ∷ []) in
        let small : length (spelled_block held) ≤ 65536 = omega (arith, few, inner, front) in
        let a = made test p.0 in
        let b = as_items held small (made_block held p.1 small) in
        (view-If names s (make place what test) _ ∙ ap₂ (If s) a.0 b.0, if_filled w s _ _ None a.1 b.1 refl)
    made_statement (IfElse s test held otherwise) h few =
        let p = parts (tree_names test) (block_names held ++ block_names otherwise) h in
        let q = parts (block_names held) (block_names otherwise) p.1 in
        let last = spelled_block otherwise ++ Mark mark.RIGHT_BRACE ∷ [] in
        let middle = Mark mark.RIGHT_BRACE ∷ Reserved word.ELSE ∷ Mark mark.LEFT_BRACE ∷ last in
        let inner = length-append (spelled test) (Mark mark.LEFT_BRACE ∷ (spelled_block held ++ middle)) in
        let front = length-append (spelled_block held) middle in
        let back = length-append (spelled_block otherwise) (Mark mark.RIGHT_BRACE ∷ []) in
        let small : length (spelled_block held) ≤ 65536 = omega (arith, few, inner, front) in
        let small' : length (spelled_block otherwise) ≤ 65536 = omega (arith, few, inner, front, back) in
        let a = made test p.0 in
        let b = as_items held small (made_block held q.0 small) in
        let c = as_items otherwise small' (made_block otherwise q.1 small') in (
          view-If_else names s (make place what test) _ _ ∙ three (IfElse s) a.0 b.0 c.0,
          if_filled w s _ _ (Some _) a.1 b.1 c.1,
        )
    made_statement (Emit s slot value) h few =
        let a = made value h.1 in
        (ap₂ (Emit s) (name_view slot h.0) a.0, emit_filled s _ _ (name_good slot h.0) a.1)
    made_statement (Break s) h few = (refl, break_filled s)

    made_block : (b : Statements) → Found (block_names b) → length (spelled_block b) ≤ 65536
        → AreMade b (make_block place what b)
    made_block End h few = (refl, refl)
    made_block (More first others) h few =
        let p = parts (statement_names first) (block_names others) h in
        let both_long = length-append (spelled_statement first) (spelled_block others) in
        let a = made_statement first p.0 (omega (arith, few, both_long)) in
        let b = made_block others p.1 (omega (arith, few, both_long)) in
        (ap₂ More a.0 b.0, and_from _ _ a.1 b.1)

  pub made_items : (b : Statements) → Found (block_names b) → length (spelled_block b) ≤ 65536
      → AreMade b (make_vec (make_block place what b)).items
  made_items b h few = as_items b few (made_block b h few)

  -- ---- declarations
  module _ {X Y : Type 0} (make_one : X → Y) (tell : Y → X) (test : Y → Bool) (texts : X → Texts) where
    -- what is made of each tells it, and passes the test
    abbrev pub EachMade : Type 0
    EachMade = (x : X) → Found (texts x) → (tell (make_one x) ≡ x) × (test (make_one x) ≡ true)

    abbrev pub AreAllMade : List X → List Y → Type 0
    AreAllMade xs ys = (map tell ys ≡ xs) × (list_all test ys ≡ true)

    list_made : EachMade → (xs : List X) → Found (flat_map texts xs) → AreAllMade xs (map make_one xs)
    list_made one [] h = (refl, refl)
    list_made one (x ∷ xs) h =
        let p = parts (texts x) (flat_map texts xs) h in
        let a = one x p.0 in
        let b = list_made one xs p.1 in
        (ap₂ (λ y ys. y ∷ ys) a.0 b.0, and_from _ _ a.1 b.1)

    pub vec_made : EachMade → (xs : List X) → length xs ≤ 65536 → Found (flat_map texts xs)
        → AreAllMade xs (make_vec (map make_one xs)).items
    vec_made one xs few h =
        let e = length-map xs make_one in
        let same = vec_items (map make_one xs) (omega (arith, e, few)) in
        subst (AreAllMade xs) (sym same) (list_made one xs h)

  pub decl_made : EachMade (make_declaration place what) (view_declaration names) (decl_filled w) declaration_names
  decl_made d h =
      let a = made d.value h.1 in
      let again : Named → Tree → Declaration = λ n e. record { name = n; kind = d.kind; value = e } in
      (ap₂ again (name_view d.name h.0) a.0, and_from _ _ (name_good d.name h.0) a.1)

  abbrev pub slot_filled : SlotDecl → Bool
  slot_filled d = name_filled w d.name

  pub slot_made : EachMade (make_slot place what) (view_slot names) slot_filled slot_names
  slot_made d h =
      let again : Named → SlotDeclaration = λ n. record { name = n; op = d.op } in
      (ap again (name_view d.name h.0), name_good d.name h.0)

  abbrev pub total_filled : TotalDecl → Bool
  total_filled d = name_filled w d.name && expr_filled w d.value

  pub total_made : EachMade (make_total place what) (view_total names) total_filled total_names
  total_made d h =
      let a = made d.value h.1 in
      let again : Named → Tree → TotalDeclaration = λ n e. record { name = n; op = d.op; value = e } in
      (ap₂ again (name_view d.name h.0) a.0, and_from _ _ (name_good d.name h.0) a.1)
