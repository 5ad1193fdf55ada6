-- Statements: an `if` among the others, by the number of nodes that may be nested.
use Rattle.std.proofs.Common.{◌≡◌, ℕ, zero, suc, pred, ◌≤◌, Bool, true, false, ◌&&◌, List, [], ◌∷◌, ◌++◌, Option, None, Some, Ok, refl, sym, ap, ◌∙◌, arith}
use Rattle.std.specs.Prelude.{IsTrue}
use Rattle.std.proofs.lemmas.Bool.{and_right}
use Rattle.vert_base.specs.declared.text.Span.{Span}
use Rattle.vert_lex.specs.declared.marks.TheConstants as mark
use Rattle.vert_lex.specs.declared.words.TheConstants as word
use Rattle.vert_lex.specs.Text.{Placed}
use Rattle.vert_lex.specs.Tokens.{Kind, Reserved, Mark, Name}
use Rattle.vert_tree.specs.declared.statement.AssignOp.TheVariants as assign
use Rattle.vert_tree.specs.Plain.{nowhere}
use Rattle.vert_tree.specs.Trees.{Named, Tree, Statement, Assign, SetActive, If, IfElse, Emit, Break, statement_depth, Statements, End}
use Rattle.vert_tree.specs.Views.{if_of}
use Rattle.vert_grammar.specs.Faults.{Unexpected, TooDeep}
use Rattle.vert_grammar.specs.Grammar.{Limits, Rights, loop_rights, tail_rights, sparse_rights, update_rights, Reads, TheMark, ReadsStatement}
use Rattle.vert_grammar.specs.Reading.{Stop, Parser, stop, both, begins, if_begins, node, many, goes_on, block_of, braced, else_of, tree_at, choose, assign_at, set_active_at, emit_at, break_at, statement_at, block_at}
use Rattle.vert_grammar.specs.Signs.{token, is_word, is_name}
use Rattle.grammar_laws.specs.Notions.{Covers, deep, inside, Notion, Took, Sound, Complete, Front, Any, Fault, First, HasWord, IsReader, IsNode, Follows, both_notion, SoundWhere, FirstWhere}
use Rattle.grammar_laws.proofs.Readers.{grows_covers, covers_refl, carry, both_sound, both_complete, both_first}
use Rattle.grammar_laws.proofs.Trees.{tree_notion, tree_run, depth_pos, leaf, leaf_tokens, leaf_reads, free_brace}
use Rattle.grammar_laws.proofs.Either.{either_sound, either_first, none_sound, none_first, node_sound, node_goes, node_first}
use Rattle.grammar_laws.proofs.Laws.{made_reader, many_reader}
use Rattle.program_laws.proofs.Parts.{trees, keeps, then_map, then_assoc, then_joined, then_none, none_then, opened, opening, signing}
use Rattle.vert_base.proofs.Chains.{and_first}
use Rattle.program_laws.proofs.Simple.{StatementEnds, statement_notion, sort, sort_notion, assign_reader, active_reader, emit_reader, break_reader}
use Rattle.program_laws.proofs.Blocks.{empty_block, empty_reads, next, opens, solid, items, block_notion, block_image, braced_notion, else_notion, braced_sound, else_sound, braced_complete, else_complete, braced_first, else_first}

-- what runs alike where the limits are wide enough has the same first faults
pub first_same : {A : Type 0} (K : Notion A) (p q : Limits → Parser A) (l : Limits) →
    ((m : Limits) → Covers l m → (us : List Placed) → q m us ≡ p m us) → First K p l → First K q l
first_same K p q l same h ts s e =
    carry K K p q (λ m. m) l ts [] s (h ts s (sym (same l (covers_refl l) ts) ∙ e)) (λ m c. c) (λ u w. w) (λ u w. w)
    (λ u w. w)
    (λ m u more w g sh parts k. same m (grows_covers w l m g) (u ++ more) ∙ k)

-- ---- what stands behind the word `if`
abbrev pub Branch : Type 0
Branch = Tree × (Statements × Option Statements)

abbrev pub branch_notion : Rights → Notion Branch
branch_notion rights = both_notion (tree_notion 6) (both_notion (braced_notion rights) (else_notion rights))

abbrev pub if_parts : Parser Tree → Parser Statement → Parser Branch
if_parts t p = both t (both (braced p) (else_of p))

abbrev pub if_value : Span → Branch → Statement
if_value s x = if_of s x.0 x.1.0 x.1.1

pub if_node : (rights : Rights) → IsNode (branch_notion rights) (statement_notion rights) (Reserved word.IF) if_value
if_node rights = record {
  form = λ s x u h. form s x.0 x.1.0 x.1.1 u h;
  within = λ l b s x h. deep_enough b s x.0 x.1.0 x.1.1 h;
  shallow = λ b s x h. deep_enough b s x.0 x.1.0 x.1.1 h;
  follow = λ s x r h. follow s x.0 x.1.0 x.1.1 r h;
}
  where
    form : (s : Span) (test : Tree) (held : Statements) (otherwise : Option Statements) (u : List Placed) →
        (branch_notion rights).form (test, (held, otherwise)) u →
        ReadsStatement rights (if_of s test held otherwise) (token s (Reserved word.IF) ∷ u)
    form s test held None u h = opening s (Reserved word.IF) u (then_map (keeps (Reads 6 test)) then_none u h)
    form s test held (Some otherwise) u h =
        opening s (Reserved word.IF) u (then_map (keeps (Reads 6 test)) (λ v k.
        then_map (keeps (TheMark mark.LEFT_BRACE)) then_assoc v (then_assoc v k)) u h)

    deep_enough : (b : ℕ) (s : Span) (test : Tree) (held : Statements) (otherwise : Option Statements) →
        (branch_notion rights).shallow b (test, (held, otherwise)) → statement_depth (if_of s test held otherwise)
        ≤ suc b
    deep_enough b s test held None h = let p = h.0 in let q = h.1.0 in omega arith
    deep_enough b s test held (Some otherwise) h = let p = h.0 in let q = h.1.0 in let r = h.1.1 in omega arith

    follow : (s : Span) (test : Tree) (held : Statements) (otherwise : Option Statements) (r : List Placed) →
        (branch_notion rights).follow (test, (held, otherwise)) r → StatementEnds (if_of s test held otherwise) r
    follow s test held None r h = h
    follow s test held (Some otherwise) r h = tt

module _ (rights : Rights) where
  abbrev N : Notion Statement
  N = statement_notion rights

  abbrev tail_notion : Notion (Statements × Option Statements)
  tail_notion = both_notion (braced_notion rights) (else_notion rights)

  test_follows : Follows (tree_notion 6) tail_notion
  test_follows x y v r h f = rw (h.whole, h.first.whole, h.first.first.1) free_brace

  branch_sound : (l : Limits) (t : Parser Tree) (p : Parser Statement) → Sound (tree_notion 6) l t → Sound N l p →
      Sound (branch_notion rights) l (if_parts t p)
  branch_sound l t p ht hp =
      both_sound (tree_notion 6) (λ x. tail_notion) l t (λ x. both (braced p) (else_of p)) ht
      (λ x. both_sound (braced_notion rights) (λ x. else_notion rights) l (braced p) (λ x. else_of p)
      (braced_sound rights l p hp) (λ x. else_sound rights l p hp))

  branch_complete : (l : Limits) (t : Parser Tree) (p : Parser Statement) → Complete (tree_notion 6) l t →
      Sound N l p → Complete N l p → Complete (branch_notion rights) l (if_parts t p)
  branch_complete l t p ht hs hc =
      both_complete (tree_notion 6) (λ x. tail_notion) l t (λ x. both (braced p) (else_of p)) test_follows ht
      (λ x. both_complete (braced_notion rights) (λ x. else_notion rights) l (braced p) (λ x. else_of p)
      (λ x y v r h f. tt) (braced_complete rights l p hs hc) (λ x. else_complete rights l p hs hc))

  -- ---- a choice by the first token
  took : (n : ℕ) (l : Limits) (ts : List Placed) (x : Statement) (r : List Placed) →
      Took (sort_notion rights n) l ts x r → Took N l ts x r
  took n l ts x r t = record { used = t.used; parts = t.parts; reads = t.reads.0; fits = t.fits; ends = t.ends }

  fault : (n : ℕ) (run : Limits → Parser Statement) (l : Limits) (ts : List Placed) (s : Stop) →
      Fault (sort_notion rights n) run l ts s → Fault N run l ts s
  fault n run l ts s g = carry (sort_notion rights n) N run run (λ m. m) l ts [] s g (λ m c. c) (widen (N.within l))
      (widen (N.shallow l.depth)) (widen Any) (λ m u more w c sh parts k. k)
    where
      widen : (W : Statement → Type 0) (u : List Placed) → Front (sort_notion rights n).form W u → Front N.form W u
      widen W u w = (w.0, w.1, w.2.0, w.3)

  right : (a : Bool) (f : Kind → Bool) (ts : List Placed) → begins (λ k. a && f k) ts ≡ true → a ≡ true
  right a f [] o = absurd cc
  right a f (t ∷ ts) o = and_first a (f t.kind) o

  module _ (a : Bool) (f : Kind → Bool) (n : ℕ) (p : Limits → Parser Statement) (reads : IsTrue a →
      IsReader (sort_notion rights n) p) (l : Limits) where
    where_sound : SoundWhere (λ k. a && f k) N l (p l)
    where_sound ts x r o e = took n l ts x r ((reads (right a f ts o)).sound l ts x r e)

    where_first : 1 ≤ l.depth → FirstWhere (λ k. a && f k) N p l
    where_first pos ts s o e = fault n p l ts s ((reads (right a f ts o)).first l pos ts s e)

  abbrev may_assign : Kind → Bool
  may_assign k = rights.assigns && is_name k

  abbrev may_activate : Kind → Bool
  may_activate k = rights.activates && is_word word.ACTIVE k

  abbrev may_emit : Kind → Bool
  may_emit k = rights.emits && is_word word.EMIT k

  abbrev may_break : Kind → Bool
  may_break k = rights.breaks && is_word word.BREAK k

  abbrev break_or : Parser Statement
  break_or = if_begins may_break break_at (stop Unexpected)

  abbrev emit_or : ℕ → Parser Statement
  emit_or b = if_begins may_emit (emit_at b) break_or

  abbrev active_or : ℕ → Parser Statement
  active_or b = if_begins may_activate (set_active_at b) (emit_or b)

  abbrev assign_or : ℕ → Parser Statement
  assign_or b = if_begins may_assign (assign_at b) (active_or b)

  choose_is : (b : ℕ) (branch : Parser Statement) (ts : List Placed) →
      choose rights b branch ts ≡ if_begins (is_word word.IF) branch (assign_or b) ts
  unfolding choose
  choose_is b branch ts = refl

  choose_sound : (l : Limits) (branch : Parser Statement) → SoundWhere (is_word word.IF) N l branch →
      Sound N l (choose rights l.depth branch)
  unfolding choose
  choose_sound l branch h =
      either_sound N (is_word word.IF) l branch (assign_or l.depth) h
      (either_sound N may_assign l (assign_at l.depth) (active_or l.depth)
      (where_sound rights.assigns is_name 0 (λ m. assign_at m.depth) (assign_reader rights) l)
      (either_sound N may_activate l (set_active_at l.depth) (emit_or l.depth)
      (where_sound rights.activates (is_word word.ACTIVE) 1 (λ m. set_active_at m.depth) (active_reader rights) l)
      (either_sound N may_emit l (emit_at l.depth) break_or
      (where_sound rights.emits (is_word word.EMIT) 3 (λ m. emit_at m.depth) (emit_reader rights) l)
      (either_sound N may_break l break_at (stop Unexpected)
      (where_sound rights.breaks (is_word word.BREAK) 4 (λ m. break_at) (break_reader rights) l)
      (none_sound N l)))))

  choose_first : (l : Limits) → 1 ≤ l.depth → (branch : Limits → Parser Statement) → HasWord N l →
      FirstWhere (is_word word.IF) N branch l → First N (λ m. choose rights m.depth (branch m)) l
  unfolding choose
  choose_first l pos branch some h =
      either_first N (is_word word.IF) l branch (λ m. assign_or m.depth) h
      (either_first N may_assign l (λ m. assign_at m.depth) (λ m. active_or m.depth)
      (where_first rights.assigns is_name 0 (λ m. assign_at m.depth) (assign_reader rights) l pos)
      (either_first N may_activate l (λ m. set_active_at m.depth) (λ m. emit_or m.depth)
      (where_first rights.activates (is_word word.ACTIVE) 1 (λ m. set_active_at m.depth) (active_reader rights) l
      pos)
      (either_first N may_emit l (λ m. emit_at m.depth) (λ m. break_or)
      (where_first rights.emits (is_word word.EMIT) 3 (λ m. emit_at m.depth) (emit_reader rights) l pos)
      (either_first N may_break l (λ m. break_at) (λ m. stop Unexpected)
      (where_first rights.breaks (is_word word.BREAK) 4 (λ m. break_at) (break_reader rights) l pos)
      (none_first N l some)))))

  module _ (l : Limits) (branch : Parser Statement) (h : (x : Statement) (u r : List Placed) → sort x ≡ 2 →
      N.form x u → N.within l x → N.follow x r → branch (u ++ r) ≡ Ok (x, r)) where
    -- what begins with a token
    front : (s : Span) (k : Kind) (u v r : List Placed) → u ≡ token s k ∷ v →
        choose rights l.depth branch (u ++ r)
        ≡ if_begins (is_word word.IF) branch (assign_or l.depth) (token s k ∷ (v ++ r))
    front s k u v r e = choose_is l.depth branch (u ++ r)
        ∙ ap (λ l'. if_begins (is_word word.IF) branch (assign_or l.depth) (l' ++ r)) e

    choose_complete : Complete N l (choose rights l.depth branch)
    choose_complete (Assign target op value) u r k w f =
        let e = opened target.span (Name target.text) u k.1 in
        let q = (assign_reader rights k.0).complete l (Assign target op value) u r (k, refl) w f in
        let b : if_begins (is_word word.IF) branch (assign_or l.depth)
        (token target.span (Name target.text) ∷ (k.1.back ++ r))
        ≡ assign_at l.depth (token target.span (Name target.text) ∷ (k.1.back ++ r)) = rw (k.0) refl in
        front target.span (Name target.text) u k.1.back r e ∙ b ∙ ap (λ l'. assign_at l.depth (l' ++ r)) (sym e) ∙ q
    choose_complete (SetActive s value) u r k w f =
        let e = opened s (Reserved word.ACTIVE) u k.1 in
        let q = (active_reader rights k.0).complete l (SetActive s value) u r (k, refl) w f in
        let n = and_right rights.assigns false refl in
        let b : if_begins (is_word word.IF) branch (assign_or l.depth)
        (token s (Reserved word.ACTIVE) ∷ (k.1.back ++ r))
        ≡ set_active_at l.depth (token s (Reserved word.ACTIVE) ∷ (k.1.back ++ r)) = rw (n, k.0) refl in
        front s (Reserved word.ACTIVE) u k.1.back r e ∙ b ∙ ap (λ l'. set_active_at l.depth (l' ++ r)) (sym e) ∙ q
    choose_complete (If s test held) u r k w f =
        let e = opened s (Reserved word.IF) u k in
        front s (Reserved word.IF) u k.back r e ∙ ap (λ l'. branch (l' ++ r)) (sym e)
        ∙ h (If s test held) u r refl k w f
    choose_complete (IfElse s test held otherwise) u r k w f =
        let e = opened s (Reserved word.IF) u k in
        front s (Reserved word.IF) u k.back r e ∙ ap (λ l'. branch (l' ++ r)) (sym e)
        ∙ h (IfElse s test held otherwise) u r refl k w f
    choose_complete (Emit s slot value) u r k w f =
        let e = opened s (Reserved word.EMIT) u k.1 in
        let q = (emit_reader rights k.0).complete l (Emit s slot value) u r (k, refl) w f in
        let n = and_right rights.assigns false refl in
        let n2 = and_right rights.activates false refl in
        let b : if_begins (is_word word.IF) branch (assign_or l.depth)
        (token s (Reserved word.EMIT) ∷ (k.1.back ++ r))
        ≡ emit_at l.depth (token s (Reserved word.EMIT) ∷ (k.1.back ++ r)) = rw (n, n2, k.0) refl in
        front s (Reserved word.EMIT) u k.1.back r e ∙ b ∙ ap (λ l'. emit_at l.depth (l' ++ r)) (sym e) ∙ q
    choose_complete (Break s) u r k w f =
        let e = opened s (Reserved word.BREAK) u k.1 in
        let q = (break_reader rights k.0).complete l (Break s) u r (k, refl) w f in
        let n = and_right rights.assigns false refl in
        let n2 = and_right rights.activates false refl in
        let n3 = and_right rights.emits false refl in
        let b : if_begins (is_word word.IF) branch (assign_or l.depth)
        (token s (Reserved word.BREAK) ∷ (k.1.back ++ r))
        ≡ break_at (token s (Reserved word.BREAK) ∷ (k.1.back ++ r)) = rw (n, n2, n3, k.0) refl in
        front s (Reserved word.BREAK) u k.1.back r e ∙ b ∙ ap (λ l'. break_at (l' ++ r)) (sym e) ∙ q

  -- ---- by the number of nodes that may be nested
  abbrev branch_at : ℕ → Parser Branch
  branch_at b = if_parts (tree_at b 6) (statement_at rights b)

  statement_sound : (b : ℕ) (l : Limits) → Sound N (deep l b) (statement_at rights b)
  unfolding statement_at
  statement_sound zero l = choose_sound (deep l zero) (stop TooDeep) (λ ts x r o e. absurd cc)
  statement_sound (suc b) l =
      choose_sound (deep l (suc b)) (node b if_value (branch_at b))
      (node_sound (branch_notion rights) N (Reserved word.IF) if_value (if_node rights) l b (branch_at b)
      (branch_sound (deep l b) (tree_at b 6) (statement_at rights b) (trees.sound (deep l b))
      (statement_sound b l)))

  no_room : (x : Statement) → sort x ≡ 2 → statement_depth x ≤ 0 → ⊥
  no_room (Assign target op value) is w = absurd (omega arith)
  no_room (SetActive s value) is w = absurd (omega arith)
  no_room (If s test held) is w = absurd (omega arith)
  no_room (IfElse s test held otherwise) is w = absurd (omega arith)
  no_room (Emit s slot value) is w = absurd (omega arith)
  no_room (Break s) is w = absurd (omega arith)

  module _ (b : ℕ) (l : Limits) where
    node_complete : Complete N (deep l b) (statement_at rights b) → (x : Statement) (u r : List Placed) →
        sort x ≡ 2 → N.form x u → N.within (deep l (suc b)) x → N.follow x r →
        node b if_value (branch_at b) (u ++ r) ≡ Ok (x, r)
    node_complete ih (Assign target op value) u r is h w f = absurd (omega arith)
    node_complete ih (SetActive s value) u r is h w f = absurd (omega arith)
    node_complete ih (Emit s slot value) u r is h w f = absurd (omega arith)
    node_complete ih (Break s) u r is h w f = absurd (omega arith)
    node_complete ih (If s test held) u r is h w f =
        let pos : 1 ≤ b = (let d = depth_pos test in omega arith) in
        let fits : (branch_notion rights).within (deep l b) (test, (held, None)) =
        ((let z = w in omega arith), ((let z = w in omega arith), tt)) in
        let e = branch_complete (deep l b) (tree_at b 6) (statement_at rights b) (trees.complete (deep l b))
        (statement_sound b l) ih (test, (held, None)) h.back r
        (then_map (keeps (Reads 6 test)) none_then h.back h.second) fits f in
        ap (λ l'. node b if_value (branch_at b) (l' ++ r)) (opened s (Reserved word.IF) u h)
        ∙ node_goes (branch_notion rights) N (Reserved word.IF) if_value (if_node rights) b (branch_at b)
        (token s (Reserved word.IF)) (h.back ++ r) (test, (held, None)) r pos e
    node_complete ih (IfElse s test held otherwise) u r is h w f =
        let pos : 1 ≤ b = (let d = depth_pos test in omega arith) in
        let fits : (branch_notion rights).within (deep l b) (test, (held, Some otherwise)) =
        ((let z = w in omega arith), ((let z = w in omega arith), (let z = w in omega arith))) in
        let e = branch_complete (deep l b) (tree_at b 6) (statement_at rights b) (trees.complete (deep l b))
        (statement_sound b l) ih (test, (held, Some otherwise)) h.back r
        (then_map (keeps (Reads 6 test)) (λ v k.
        then_joined v (then_map (keeps (TheMark mark.LEFT_BRACE)) then_joined v k)) h.back h.second) fits tt in
        ap (λ l'. node b if_value (branch_at b) (l' ++ r)) (opened s (Reserved word.IF) u h)
        ∙ node_goes (branch_notion rights) N (Reserved word.IF) if_value (if_node rights) b (branch_at b)
        (token s (Reserved word.IF)) (h.back ++ r) (test, (held, Some otherwise)) r pos e

  statement_complete : (b : ℕ) (l : Limits) → Complete N (deep l b) (statement_at rights b)
  unfolding statement_at
  statement_complete zero l = choose_complete (deep l zero) (stop TooDeep) (λ x u r is h w f. absurd (no_room x is w))
  statement_complete (suc b) l = choose_complete (deep l (suc b)) (node b if_value (branch_at b))
      (node_complete b l (statement_complete b l))

  -- ---- the first fault
  abbrev pub statement_run : Limits → Parser Statement
  statement_run m = statement_at rights m.depth

  abbrev branch_run : Limits → Parser Branch
  branch_run m = branch_at m.depth

  pub statement_sound_at : (m : Limits) → Sound N m (statement_run m)
  statement_sound_at m = statement_sound m.depth m

  pub statement_complete_at : (m : Limits) → Complete N m (statement_run m)
  statement_complete_at m = statement_complete m.depth m

  branch_first : (l : Limits) → 1 ≤ l.depth → First N statement_run l → First (branch_notion rights) branch_run l
  branch_first l pos hf =
      both_first (tree_notion 6) (λ x. tail_notion) l (tree_run 6) (λ x m.
      both (braced (statement_run m)) (else_of (statement_run m))) test_follows (λ x. empty_tail l)
      (trees.sound l) (λ m c. trees.complete m) (trees.first l pos)
      (λ x. both_first (braced_notion rights) (λ x. else_notion rights) l (λ m. braced (statement_run m)) (λ x m.
      else_of (statement_run m)) (λ x y v r h f. tt) (λ x. (None, [], refl, tt))
      (braced_sound rights l (statement_run l) (statement_sound_at l)) (λ m c.
      braced_complete rights m (statement_run m) (statement_sound_at m) (statement_complete_at m))
      (braced_first rights statement_run statement_sound_at statement_complete_at l pos hf) (λ x.
      else_first rights statement_run statement_sound_at statement_complete_at l pos hf))
    where
      empty_tail : (l : Limits) → HasWord tail_notion l
      empty_tail l = ((End, None), empty_block, none_then empty_block (empty_reads rights), (omega arith, tt))

  -- the word `if` and its branch, where there is room
  step : (d : ℕ) → 1 ≤ d → (us : List Placed) →
      statement_at rights d us ≡ choose rights d (node (pred d) if_value (branch_at (pred d))) us
  unfolding statement_at
  step zero pos us = absurd (omega arith)
  step (suc d) pos us = refl

  module _ (some : (l : Limits) → 1 ≤ l.depth → HasWord N l) where
    pub statement_first : (b : ℕ) (l : Limits) → 1 ≤ b → First N statement_run (deep l b)
    statement_first zero l pos = absurd (omega arith)
    statement_first (suc b) l pos =
        first_same N (λ m. choose rights m.depth (node (pred m.depth) if_value (branch_run (inside m)))) statement_run
        (deep l (suc b)) (λ m c us. step m.depth (let d = c.depth in omega arith) us)
        (choose_first (deep l (suc b)) pos (λ m. node (pred m.depth) if_value (branch_run (inside m)))
        (some (deep l (suc b)) pos)
        (node_first (branch_notion rights) N (Reserved word.IF) if_value (if_node rights) l b branch_run (λ one.
        branch_first (deep l b) one (statement_first b l one)) (some (deep l (suc b)) pos)
        (leaf, (End, None)) (leaf_tokens ++ empty_block)
        (record {
          front = leaf_tokens;
          back = empty_block;
          whole = refl;
          first = leaf_reads 6;
          second = none_then empty_block (empty_reads rights);
        })))

    pub statement_reader : IsReader N statement_run
    statement_reader = record {
      sound = statement_sound_at;
      complete = statement_complete_at;
      first = λ l pos.
          statement_first l.depth l pos;
      word = some;
    }

    pub block_reader : IsReader (block_notion rights) (λ m. block_at rights m.depth)
    unfolding block_at
    block_reader = made_reader (items rights) (block_notion rights) block_of (λ m. many goes_on (statement_run m))
        (block_image rights) (many_reader N goes_on statement_run (next rights) (opens rights) (solid rights)
        statement_reader)

-- ---- the least statements
abbrev nameless : Named
nameless = record { span = nowhere; text = [] }

abbrev semicolon : List Placed
semicolon = token nowhere (Mark mark.SEMICOLON) ∷ []

emits_something : (rights : Rights) → IsTrue rights.emits → (l : Limits) → 1 ≤ l.depth →
    HasWord (statement_notion rights) l
emits_something rights right l pos = (
  Emit nowhere nameless leaf,
  token nowhere (Reserved word.EMIT) ∷ token nowhere (Name []) ∷ (leaf_tokens ++ semicolon),
  (
    right,
    opening nowhere (Reserved word.EMIT) _
        (opening nowhere (Name []) _ (record {
          front = leaf_tokens;
          back = semicolon;
          whole = refl;
          first = leaf_reads 6;
          second = (nowhere, refl);
        })),
  ),
  pos,
)

assigns_something : (rights : Rights) → IsTrue rights.assigns → (l : Limits) → 1 ≤ l.depth →
    HasWord (statement_notion rights) l
assigns_something rights right l pos = (
  Assign nameless assign.Set leaf,
  token nowhere (Name []) ∷ token nowhere (Mark mark.ASSIGN) ∷ (leaf_tokens ++ semicolon),
  (
    right,
    opening nowhere (Name []) _
        (signing nowhere (Mark mark.ASSIGN) _
        (record {
          front = leaf_tokens;
          back = semicolon;
          whole = refl;
          first = leaf_reads 6;
          second = (nowhere, refl);
        })),
  ),
  pos,
)

-- ---- the four kinds of blocks
pub loop_reader : IsReader (block_notion loop_rights) (λ m. block_at loop_rights m.depth)
loop_reader = block_reader loop_rights (assigns_something loop_rights refl)

pub tail_reader : IsReader (block_notion tail_rights) (λ m. block_at tail_rights m.depth)
tail_reader = block_reader tail_rights (assigns_something tail_rights refl)

pub sparse_reader : IsReader (block_notion sparse_rights) (λ m. block_at sparse_rights m.depth)
sparse_reader = block_reader sparse_rights (emits_something sparse_rights refl)

pub update_reader : IsReader (block_notion update_rights) (λ m. block_at update_rights m.depth)
update_reader = block_reader update_rights (assigns_something update_rights refl)
