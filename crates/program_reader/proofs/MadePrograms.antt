-- What is made of the tree of a program tells that tree, and its names say what they stand for.
use Rattle.std.proofs.Common.{◌≡◌, ◌≤◌, ℕ, true, List, [], ◌∷◌, ◌++◌, length, map, Option, Some, None, refl, ap, ◌∙◌, arith, length-append}
use Rattle.std.specs.Prelude.{flat_map, option_map}
use Rattle.std.specs.declared.alloc.Global.{Global}
use Rattle.std.specs.declared.string.String.{String}
use Rattle.vert_lex.specs.declared.marks.TheConstants as mark
use Rattle.vert_lex.specs.declared.words.TheConstants as word
use Rattle.vert_lex.specs.Tokens.{Kind, Mark, Reserved}
use Rattle.vert_tree.specs.declared.name.What.{What}
use Rattle.vert_tree.specs.Places.{option_all}
use Rattle.vert_tree.specs.Trees.{Declaration, DenseBlock, ProgramTree, SlotDeclaration, SparseBlock, Statements, TotalDeclaration, Tree}
use Rattle.vert_tree.specs.Views.{view, view_declaration, view_dense, view_program, view_slot, view_sparse, view_total}
use Rattle.vert_types.specs.Filled.{decl_filled, decls_filled, dense_filled, expr_filled, program_filled, sparse_filled}
use Rattle.std.proofs.lemmas.Bool.{and_from}
use Rattle.vert_grammar.specs.Grammar.{Given, IsSmall, limits}
use Rattle.vert_grammar.specs.Spelling.{spelled, spelled_block, spelled_declaration, spelled_dense, spelled_header, spelled_maybe, spelled_program, spelled_slot, spelled_sparse, spelled_start, spelled_stop, spelled_total, spelled_update}
use Rattle.vert_parse.specs.Names.{Texts, block_names, declaration_names, dense_names, given_names, program_names, slot_names, sparse_names, total_names, tree_names}
use Rattle.program_reader.proofs.Made.{make, make_block, make_declaration, make_dense, make_program, make_slot, make_sparse, make_total, make_vec}
use Rattle.program_reader.proofs.MadeLaws.{AreMade, Found, IsMade, decl_made, four, made, made_items, parts, slot_filled, slot_made, three, total_filled, total_made, vec_made}

-- a tree with these parts
module _ (t : ProgramTree) where
  abbrev tree_of : List Declaration → List SlotDeclaration → List TotalDeclaration → Tree → Option DenseBlock →
      Option SparseBlock → Statements → Option Tree → ProgramTree
  tree_of fields slots totals start dense sparse update stop = record t {
    fields = fields;
    slots = slots;
    totals = totals;
    start = start;
    dense = dense;
    sparse = sparse;
    update = update;
    stop = stop;
  }

-- eight parts that are the same
eight :
    {A B C D E F G H I : Type 0} (f : A → B → C → D → E → F → G → H → I)
    {a a' : A} {b b' : B} {c c' : C} {d d' : D} {e e' : E} {g g' : F} {h h' : G} {i i' : H} →
    a ≡ a' → b ≡ b' → c ≡ c' → d ≡ d' → e ≡ e' → g ≡ g' → h ≡ h' → i ≡ i'
    → f a b c d e g h i ≡ f a' b' c' d' e' g' h' i'
eight f {a} {a'} {b} {b'} {c} {c'} {d} {d'} {e} {e'} {g} {g'} {h} {h'} {i} {i'} p q r s t u v w =
    four (λ x y z k. f x y z k e g h i) p q r s ∙ four (f a' b' c' d') t u v w

-- ---- lists of tokens that are few
front_few : (a b : List Kind) → length (a ++ b) ≤ 65536 → length a ≤ 65536
front_few a b h = let e = length-append a b in omega (arith, e, h)

back_few : (a b : List Kind) → length (a ++ b) ≤ 65536 → length b ≤ 65536
back_few a b h = let e = length-append a b in omega (arith, e, h)

module _ (place : List ℕ → ℕ) (what : List ℕ → What) (names : List (String Global)) (w : ℕ → Option What) where
  abbrev Here : Texts → Type 0
  Here = Found place what names w

  abbrev cut : (xs ys : Texts) → Here (xs ++ ys) → Here xs × Here ys
  cut = parts place what names w

  abbrev expression : (e : Tree) → Here (tree_names e) → IsMade place what names w e
  expression = made place what names w

  abbrev block : (b : Statements) → Here (block_names b) → length (spelled_block b) ≤ 65536
      → AreMade place what names w b (make_vec (make_block place what b)).items
  block = made_items place what names w

  declarations : (ds : List Declaration) → length ds ≤ 65536 → Here (flat_map declaration_names ds)
      → (map (view_declaration names) (make_vec (map (make_declaration place what) ds)).items ≡ ds)
      × (decls_filled w (make_vec (map (make_declaration place what) ds)).items ≡ true)
  declarations =
      vec_made place what names w (make_declaration place what) (view_declaration names) (decl_filled w)
      declaration_names (decl_made place what names w)

  -- ---- blocks
  abbrev IsMadeDense : Option DenseBlock → Type 0
  IsMadeDense o =
      (option_map (view_dense names) (option_map (make_dense place what) o) ≡ o)
      × (option_all (dense_filled w) (option_map (make_dense place what) o) ≡ true)

  dense_made : (o : Option DenseBlock) → Here (given_names dense_names o)
      → length (spelled_maybe spelled_dense o) ≤ 65536 → Given (λ d. length d.lets ≤ 8) o → IsMadeDense o
  dense_made None h few lets = (refl, refl)
  dense_made (Some d) h few lets =
      let let_names = flat_map declaration_names d.lets in
      let p = cut (tree_names d.test) (let_names ++ (block_names d.body ++ block_names d.tail)) h in
      let q = cut let_names (block_names d.body ++ block_names d.tail) p.1 in
      let r = cut (block_names d.body) (block_names d.tail) q.1 in
      let last = spelled_block d.tail ++ Mark mark.RIGHT_BRACE ∷ [] in
      let inner = spelled_block d.body ++ Mark mark.RIGHT_BRACE ∷ last in
      let bodies = Reserved word.FOR ∷ Reserved word.U ∷ Mark mark.LEFT_BRACE ∷ inner in
      let all = flat_map (spelled_declaration word.LET) d.lets ++ bodies in
      let u = length-append (spelled d.test) (Mark mark.LEFT_BRACE ∷ all) in
      let v = length-append (flat_map (spelled_declaration word.LET) d.lets) bodies in
      let x = length-append (spelled_block d.body) (Mark mark.RIGHT_BRACE ∷ last) in
      let y = length-append (spelled_block d.tail) (Mark mark.RIGHT_BRACE ∷ []) in
      let again : Tree → List Declaration → Statements → Statements → DenseBlock =
      λ test lets body tail. record { test = test; lets = lets; body = body; tail = tail } in
      let a = expression d.test p.0 in
      let b = declarations d.lets (omega (arith, lets)) q.0 in
      let c = block d.body r.0 (omega (arith, few, u, v, x)) in
      let e = block d.tail r.1 (omega (arith, few, u, v, x, y)) in
      (ap Some (four again a.0 b.0 c.0 e.0), and_from _ _ a.1 (and_from _ _ b.1 (and_from _ _ c.1 e.1)))

  abbrev IsMadeSparse : Option SparseBlock → Type 0
  IsMadeSparse o =
      (option_map (view_sparse names) (option_map (make_sparse place what) o) ≡ o)
      × (option_all (sparse_filled w) (option_map (make_sparse place what) o) ≡ true)

  sparse_made : (o : Option SparseBlock) → Here (given_names sparse_names o)
      → length (spelled_maybe spelled_sparse o) ≤ 65536 → Given (λ d. length d.sends ≤ 8) o → IsMadeSparse o
  sparse_made None h few sends = (refl, refl)
  sparse_made (Some d) h few sends =
      let send_names = flat_map declaration_names d.sends in
      let p = cut (tree_names d.test) (send_names ++ block_names d.body) h in
      let q = cut send_names (block_names d.body) p.1 in
      let last = spelled_block d.body ++ Mark mark.RIGHT_BRACE ∷ [] in
      let all = flat_map (spelled_declaration word.SEND) d.sends ++ last in
      let u = length-append (spelled d.test) (Mark mark.LEFT_BRACE ∷ all) in
      let v = length-append (flat_map (spelled_declaration word.SEND) d.sends) last in
      let x = length-append (spelled_block d.body) (Mark mark.RIGHT_BRACE ∷ []) in
      let again : Tree → List Declaration → Statements → SparseBlock =
      λ test sends body. record { test = test; sends = sends; body = body } in
      let a = expression d.test p.0 in
      let b = declarations d.sends (omega (arith, sends)) q.0 in
      let c = block d.body q.1 (omega (arith, few, u, v, x)) in
      (ap Some (three again a.0 b.0 c.0), and_from _ _ a.1 (and_from _ _ b.1 c.1))

  stop_made : (o : Option Tree) → Here (given_names tree_names o)
      → (option_map (view names) (option_map (make place what) o) ≡ o)
      × (option_all (expr_filled w) (option_map (make place what) o) ≡ true)
  stop_made None h = (refl, refl)
  stop_made (Some e) h = let a = expression e h in (ap Some a.0, a.1)

  -- ---- programs
  -- The tokens of a program are few, so those of its blocks are.
  record AreFew (t : ProgramTree) : Type 0 where
    dense : length (spelled_maybe spelled_dense t.dense) ≤ 65536
    sparse : length (spelled_maybe spelled_sparse t.sparse) ≤ 65536
    update : length (spelled_block t.update) ≤ 65536

  are_few : (t : ProgramTree) → length (spelled_program t) ≤ 65536 → AreFew t
  are_few t few =
      let stop = spelled_maybe spelled_stop t.stop in
      let updates = spelled_update t.update ++ stop in
      let sparses = spelled_maybe spelled_sparse t.sparse ++ updates in
      let denses = spelled_maybe spelled_dense t.dense ++ sparses in
      let starts = spelled_start t.start ++ denses in
      let totals = flat_map spelled_total t.totals ++ starts in
      let slots = flat_map spelled_slot t.slots ++ totals in
      let fields = flat_map (spelled_declaration word.FIELD) t.fields ++ slots in
      let a = back_few (spelled_header t) fields few in
      let b = back_few (flat_map (spelled_declaration word.FIELD) t.fields) slots a in
      let c = back_few (flat_map spelled_slot t.slots) totals b in
      let d = back_few (flat_map spelled_total t.totals) starts c in
      let e = back_few (spelled_start t.start) denses d in
      let f = back_few (spelled_maybe spelled_dense t.dense) sparses e in
      let g = back_few (spelled_maybe spelled_sparse t.sparse) updates f in
      let u = length-append (spelled_update t.update) stop in
      let v = length-append (spelled_block t.update) (Mark mark.RIGHT_BRACE ∷ []) in
      record {
        dense = front_few (spelled_maybe spelled_dense t.dense) sparses e;
        sparse = front_few (spelled_maybe spelled_sparse t.sparse) updates f;
        update = omega (arith, g, u, v);
      }

  pub program_made : (t : ProgramTree) → IsSmall limits t → length (spelled_program t) ≤ 65536
      → Here (program_names t) → (make_vec names).items ≡ names
      → (view_program (make_program place what names t) ≡ t)
      × (program_filled w (make_program place what names t) ≡ true)
  program_made t small few h same =
      let stop = given_names tree_names t.stop in
      let updates = block_names t.update ++ stop in
      let sparses = given_names sparse_names t.sparse ++ updates in
      let denses = given_names dense_names t.dense ++ sparses in
      let starts = tree_names t.start ++ denses in
      let totals = flat_map total_names t.totals ++ starts in
      let slots = flat_map slot_names t.slots ++ totals in
      let f1 = cut (flat_map declaration_names t.fields) slots h in
      let f2 = cut (flat_map slot_names t.slots) totals f1.1 in
      let f3 = cut (flat_map total_names t.totals) starts f2.1 in
      let f4 = cut (tree_names t.start) denses f3.1 in
      let f5 = cut (given_names dense_names t.dense) sparses f4.1 in
      let f6 = cut (given_names sparse_names t.sparse) updates f5.1 in
      let f7 = cut (block_names t.update) stop f6.1 in
      let short = are_few t few in
      let field_count = small.fields in
      let slot_count = small.slots in
      let total_count = small.totals in
      let a = declarations t.fields (omega (arith, field_count)) f1.0 in
      let b = vec_made place what names w (make_slot place what) (view_slot names) (slot_filled place what names w)
      slot_names (slot_made place what names w) t.slots (omega (arith, slot_count)) f2.0 in
      let c = vec_made place what names w (make_total place what) (view_total names) (total_filled place what names w)
      total_names (total_made place what names w) t.totals (omega (arith, total_count)) f3.0 in
      let d = expression t.start f4.0 in
      let e = dense_made t.dense f5.0 short.dense small.lets in
      let f = sparse_made t.sparse f6.0 short.sparse small.sends in
      let g = block t.update f7.0 short.update in
      let i = stop_made t.stop f7.1 in (
        rw same (eight (tree_of t) a.0 b.0 c.0 d.0 e.0 f.0 g.0 i.0),
        and_from _ _ a.1 (and_from _ _ b.1
            (and_from _ _ c.1 (and_from _ _ d.1 (and_from _ _ e.1 (and_from _ _ f.1 (and_from _ _ g.1 i.1)))))),
      )
