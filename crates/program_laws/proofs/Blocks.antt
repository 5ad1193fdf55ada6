-- Blocks of statements, given that their statements are read.
use Rattle.std.proofs.Common.{◌≡◌, ℕ, ◌≤◌, true, false, List, [], ◌∷◌, ◌++◌, length, Option, refl, sym, ap, subst, ◌∙◌, arith}
use Rattle.std.specs.List.{AllByRecursion}
use Rattle.vert_base.specs.declared.text.Span.{Span}
use Rattle.vert_lex.specs.declared.marks.TheConstants as mark
use Rattle.vert_lex.specs.declared.words.TheConstants as word
use Rattle.vert_lex.specs.Text.{Placed}
use Rattle.vert_lex.specs.Tokens.{Kind, Reserved, Mark, Name}
use Rattle.vert_tree.specs.Plain.{nowhere}
use Rattle.vert_tree.specs.Trees.{Statement, Assign, SetActive, If, IfElse, Emit, Break, statement_depth, Statements, End, More, block_depth}
use Rattle.vert_grammar.specs.Grammar.{Form, Limits, Rights, Then, Each, TheWord, TheMark, ReadsStatement, ReadsBlock}
use Rattle.vert_grammar.specs.Reading.{Parser, begins, both, made, many, goes_on, block_of, braced, else_of, the_mark, the_word}
use Rattle.vert_grammar.specs.Signs.{token, is_word}
use Rattle.grammar_laws.specs.Notions.{Notion, Sound, Complete, First, IsImage, Follows, both_notion}
use Rattle.grammar_laws.proofs.Readers.{both_sound, both_complete, both_first}
use Rattle.grammar_laws.proofs.Signs.{sign_notion, expect_reader}
use Rattle.grammar_laws.proofs.Many.{ListEnds, ListEnds-same, all_notion, many_sound, many_complete, many_first}
use Rattle.grammar_laws.proofs.Laws.{into_sound, into_first, made_complete}
use Rattle.grammar_laws.proofs.Either.{maybe_notion, maybe_sound, maybe_complete, maybe_first}
use Rattle.program_laws.proofs.Parts.{as_into, signing, keeps, signs, then_map, known, signed, then_values, begins_front, opened}
use Rattle.program_laws.proofs.Simple.{StatementEnds, statement_notion}

-- ---- the first token of a statement
pub record Begins (u : List Placed) : Type 0 where
  pub span : Span
  pub kind : Kind
  pub behind : List Placed
  pub whole : u ≡ token span kind ∷ behind
  pub no_else : is_word word.ELSE kind ≡ false
  pub no_send : is_word word.SEND kind ≡ false
  pub goes_on : goes_on kind ≡ true

pub statement_begins : (rights : Rights) (x : Statement) (u : List Placed) → ReadsStatement rights x u → Begins u
statement_begins rights (Assign target op value) u h =
    record {
      span = target.span;
      kind = Name target.text;
      behind = h.1.back;
      whole = opened target.span (Name target.text) u h.1;
      no_else = refl;
      no_send = refl;
      goes_on = refl;
    }
statement_begins rights (SetActive s value) u h =
    record {
      span = s;
      kind = Reserved word.ACTIVE;
      behind = h.1.back;
      whole = opened s (Reserved word.ACTIVE) u h.1;
      no_else = refl;
      no_send = refl;
      goes_on = refl;
    }
statement_begins rights (If s test held) u h =
    record {
      span = s;
      kind = Reserved word.IF;
      behind = h.back;
      whole = opened s (Reserved word.IF) u h;
      no_else = refl;
      no_send = refl;
      goes_on = refl;
    }
statement_begins rights (IfElse s test held otherwise) u h =
    record {
      span = s;
      kind = Reserved word.IF;
      behind = h.back;
      whole = opened s (Reserved word.IF) u h;
      no_else = refl;
      no_send = refl;
      goes_on = refl;
    }
statement_begins rights (Emit s slot value) u h =
    record {
      span = s;
      kind = Reserved word.EMIT;
      behind = h.1.back;
      whole = opened s (Reserved word.EMIT) u h.1;
      no_else = refl;
      no_send = refl;
      goes_on = refl;
    }
statement_begins rights (Break s) u h =
    record {
      span = s;
      kind = Reserved word.BREAK;
      behind = h.1.back;
      whole = opened s (Reserved word.BREAK) u h.1;
      no_else = refl;
      no_send = refl;
      goes_on = refl;
    }

-- what doesn't begin with `else` may stand behind any statement
pub ends_before : (x : Statement) (r : List Placed) → begins (is_word word.ELSE) r ≡ false → StatementEnds x r
ends_before (Assign target op value) r h = tt
ends_before (SetActive s value) r h = tt
ends_before (If s test held) r h = h
ends_before (IfElse s test held otherwise) r h = tt
ends_before (Emit s slot value) r h = tt
ends_before (Break s) r h = tt

-- ---- lists of statements as blocks
abbrev pub list_of : Statements → List Statement
list_of End = []
list_of (More first others) = first ∷ list_of others

pub block_list : (x : Statements) → block_of (list_of x) ≡ x
block_list End = refl
block_list (More first others) = ap (λ (y : Statements). More first y) (block_list others)

pub list_block : (xs : List Statement) → list_of (block_of xs) ≡ xs
list_block [] = refl
list_block (x ∷ xs) = ap (λ (y : List Statement). x ∷ y) (list_block xs)

pub block_form : (rights : Rights) (xs : List Statement) (u : List Placed) → Each (ReadsStatement rights) xs u →
    ReadsBlock rights (block_of xs) u
block_form rights [] u h = h
block_form rights (x ∷ xs) u h = record {
  front = h.front;
  back = h.back;
  whole = h.whole;
  first = h.first;
  second = block_form rights xs h.back h.second;
}

pub list_form : (rights : Rights) (x : Statements) (u : List Placed) → ReadsBlock rights x u →
    Each (ReadsStatement rights) (list_of x) u
list_form rights End u h = h
list_form rights (More first others) u h = record {
  front = h.front;
  back = h.back;
  whole = h.whole;
  first = h.first;
  second = list_form rights others h.back h.second;
}

pub block_shallow : (b : ℕ) (xs : List Statement) → AllByRecursion (λ x. statement_depth x ≤ b) xs →
    block_depth (block_of xs) ≤ b
block_shallow b [] h = omega arith
block_shallow b (x ∷ xs) h = let p = h.0 in let q = block_shallow b xs h.1 in omega arith

pub list_shallow : (b : ℕ) (x : Statements) → block_depth x ≤ b →
    AllByRecursion (λ x. statement_depth x ≤ b) (list_of x)
list_shallow b End h = tt
list_shallow b (More first others) h = (omega arith, list_shallow b others (omega arith))

-- a block without statements
abbrev pub empty_block : List Placed
empty_block = token nowhere (Mark mark.LEFT_BRACE) ∷ token nowhere (Mark mark.RIGHT_BRACE) ∷ []

-- ---- the laws of the parts, from those of the statements
module _ (rights : Rights) where
  abbrev pub items : Notion (List Statement)
  items = all_notion (statement_notion rights) goes_on

  pub next : (x y : Statement) (v r : List Placed) → ReadsStatement rights y v → StatementEnds x (v ++ r)
  next x y v r h =
      let t = statement_begins rights y v h in
      ends_before x (v ++ r) (begins_front (is_word word.ELSE) t.span t.kind v t.behind r t.whole ∙ t.no_else)

  pub opens : (x : Statement) (u r : List Placed) → ReadsStatement rights x u → begins goes_on (u ++ r) ≡ true
  opens x u r h = let t = statement_begins rights x u h in begins_front goes_on t.span t.kind u t.behind r t.whole
      ∙ t.goes_on

  pub solid : (x : Statement) (u : List Placed) → ReadsStatement rights x u → 1 ≤ length u
  solid x u h = let t = statement_begins rights x u h in let e = ap length t.whole in omega arith

  -- a block may stand before a brace
  pub before_brace : (xs : List Statement) (s : Span) (r : List Placed) →
      ListEnds (statement_notion rights) goes_on xs (token s (Mark mark.RIGHT_BRACE) ∷ r)
  before_brace [] s r = refl
  before_brace (x ∷ []) s r = (refl, ends_before x (token s (Mark mark.RIGHT_BRACE) ∷ r) refl)
  before_brace (x ∷ y ∷ ys) s r = before_brace (y ∷ ys) s r

  pub items_follow : Follows items (sign_notion (Mark mark.RIGHT_BRACE))
  items_follow xs y v r h f = subst (λ l. ListEnds (statement_notion rights) goes_on xs (l ++ r)) (sym h)
      (before_brace xs y r)

  -- ---- a block alone
  abbrev pub block_notion : Notion Statements
  block_notion = record {
    form = ReadsBlock rights;
    within = λ l x. block_depth x ≤ l.depth;
    shallow = λ b x. block_depth x ≤ b;
    follow = λ x. ListEnds (statement_notion rights) goes_on (list_of x);
    wider = λ l m x c h. (let d = c.depth in omega arith);
    weaker = λ l x h. h;
    ahead = λ x. ListEnds-same (statement_notion rights) goes_on (list_of x);
  }

  pub block_image : IsImage items block_notion block_of
  block_image = record {
    form = block_form rights;
    within = λ l. block_shallow l.depth;
    shallow = block_shallow;
    follow = λ xs r h. subst (λ ys. ListEnds (statement_notion rights) goes_on ys r) (sym (list_block xs)) h;
    back = λ y u h. (list_of y, block_list y, list_form rights y u h, λ l w. list_shallow l.depth y w);
    follow_back = λ xs r h. subst (λ ys. ListEnds (statement_notion rights) goes_on ys r) (list_block xs) h;
  }

  pub block_follows : Follows block_notion (sign_notion (Mark mark.RIGHT_BRACE))
  block_follows x = items_follow (list_of x)

  -- ---- a block in braces
  abbrev pub braced_parts : Notion (Span × (List Statement × Span))
  braced_parts = both_notion (sign_notion (Mark mark.LEFT_BRACE))
      (both_notion items (sign_notion (Mark mark.RIGHT_BRACE)))

  abbrev pub Braced : Statements → Form
  Braced x = Then (TheMark mark.LEFT_BRACE) (Then (ReadsBlock rights x) (TheMark mark.RIGHT_BRACE))

  abbrev pub braced_notion : Notion Statements
  braced_notion = record {
    form = Braced;
    within = λ l x. block_depth x ≤ l.depth;
    shallow = λ b x. block_depth x ≤ b;
    follow = λ x r. Unit {0};
    wider = λ l m x c h. (let d = c.depth in omega arith);
    weaker = λ l x h. h;
    ahead = λ x a b sh h. tt;
  }

  abbrev pub braced_value : Span × (List Statement × Span) → Statements
  braced_value x = block_of x.1.0

  pub braced_image : IsImage braced_parts braced_notion braced_value
  braced_image = record {
    form = λ x. then_map (signs x.0 (Mark mark.LEFT_BRACE))
        (then_map (block_form rights x.1.0) (signs x.1.1 (Mark mark.RIGHT_BRACE)));
    within = λ l x h. block_shallow l.depth x.1.0 h.1.0;
    shallow = λ b x h. block_shallow b x.1.0 h.1.0;
    follow = λ x r h. tt;
    back = λ y u h.
        let b = then_values (signed (Mark mark.LEFT_BRACE))
        (then_values (known (ReadsBlock rights) y) (signed (Mark mark.RIGHT_BRACE))) u h in
        let x = b.0 in (
          (x.0, (list_of y, x.1.1)),
          block_list y,
          then_map (keeps (λ u. u ≡ token x.0 (Mark mark.LEFT_BRACE) ∷ []))
              (then_map (list_form rights y) (keeps (λ u. u ≡ token x.1.1 (Mark mark.RIGHT_BRACE) ∷ []))) u b.1,
          λ l w.
              (tt, (list_shallow l.depth y w, tt)),
        );
    follow_back = λ x r h. tt;
  }

  -- an empty block
  pub empty_reads : Braced End empty_block
  empty_reads = signing nowhere (Mark mark.LEFT_BRACE) (token nowhere (Mark mark.RIGHT_BRACE) ∷ [])
      (record {
        front = [];
        back = token nowhere (Mark mark.RIGHT_BRACE) ∷ [];
        whole = refl;
        first = refl;
        second = (nowhere, refl);
      })

  -- ---- what stands behind `else`
  abbrev pub else_parts : Notion (Span × Statements)
  else_parts = both_notion (sign_notion (Reserved word.ELSE)) braced_notion

  abbrev pub Otherwise : Statements → Form
  Otherwise x = Then (TheWord word.ELSE) (Braced x)

  abbrev pub otherwise_notion : Notion Statements
  otherwise_notion = record {
    form = Otherwise;
    within = λ l x. block_depth x ≤ l.depth;
    shallow = λ b x. block_depth x ≤ b;
    follow = λ x r. Unit {0};
    wider = λ l m x c h. (let d = c.depth in omega arith);
    weaker = λ l x h. h;
    ahead = λ x a b sh h. tt;
  }

  pub otherwise_image : IsImage else_parts otherwise_notion (λ x. x.1)
  otherwise_image = record {
    form = λ x. then_map (signs x.0 (Reserved word.ELSE)) (keeps (Braced x.1));
    within = λ l x h. h.1;
    shallow = λ b x h. h.1;
    follow = λ x r h. tt;
    back = λ y u h. let b = then_values (signed (Reserved word.ELSE)) (known Braced y) u h in
        (b.0, refl, b.1, λ l w. (tt, w));
    follow_back = λ x r h. tt;
  }

  abbrev pub else_notion : Notion (Option Statements)
  else_notion = maybe_notion otherwise_notion (is_word word.ELSE)

  else_opens : (x : Statements) (u r : List Placed) → Otherwise x u → begins (is_word word.ELSE) (u ++ r) ≡ true
  else_opens x u r h = begins_front (is_word word.ELSE) h.first.0 (Reserved word.ELSE) u h.back r
      (h.whole ∙ ap (λ l. l ++ h.back) h.first.1)

  abbrev pub else_run : Parser Statement → Parser Statements
  else_run p = made (λ x. x.1) (both (the_word word.ELSE) (braced p))

  -- ---- sound
  abbrev N : Notion Statement
  N = statement_notion rights

  module _ (l : Limits) (p : Parser Statement) (hs : Sound N l p) where
    pub items_sound : Sound items l (many goes_on p)
    items_sound = many_sound N goes_on next opens solid l p hs

    pub braced_sound : Sound braced_notion l (braced p)
    braced_sound =
        into_sound braced_parts braced_notion braced_value l (as_into braced_image l)
        (both (the_mark mark.LEFT_BRACE) (both (many goes_on p) (the_mark mark.RIGHT_BRACE)))
        (both_sound (sign_notion (Mark mark.LEFT_BRACE)) (λ x.
        both_notion items (sign_notion (Mark mark.RIGHT_BRACE))) l (the_mark mark.LEFT_BRACE) (λ x.
        both (many goes_on p) (the_mark mark.RIGHT_BRACE)) ((expect_reader (Mark mark.LEFT_BRACE)).sound l)
        (λ x. both_sound items (λ x. sign_notion (Mark mark.RIGHT_BRACE)) l (many goes_on p) (λ x.
        the_mark mark.RIGHT_BRACE) items_sound (λ x. (expect_reader (Mark mark.RIGHT_BRACE)).sound l)))

    pub else_sound : Sound else_notion l (else_of p)
    else_sound =
        maybe_sound otherwise_notion (is_word word.ELSE) else_opens l (else_run p)
        (into_sound else_parts otherwise_notion (λ x. x.1) l (as_into otherwise_image l)
        (both (the_word word.ELSE) (braced p))
        (both_sound (sign_notion (Reserved word.ELSE)) (λ x. braced_notion) l (the_word word.ELSE) (λ x. braced p)
        ((expect_reader (Reserved word.ELSE)).sound l) (λ x. braced_sound)))

    -- ---- complete
    module _ (hc : Complete N l p) where
      pub items_complete : Complete items l (many goes_on p)
      items_complete = many_complete N goes_on next opens solid l p hs hc

      pub braced_complete : Complete braced_notion l (braced p)
      braced_complete =
          made_complete braced_parts braced_notion braced_value braced_image l
          (both (the_mark mark.LEFT_BRACE) (both (many goes_on p) (the_mark mark.RIGHT_BRACE)))
          (both_complete (sign_notion (Mark mark.LEFT_BRACE)) (λ x.
          both_notion items (sign_notion (Mark mark.RIGHT_BRACE))) l (the_mark mark.LEFT_BRACE) (λ x.
          both (many goes_on p) (the_mark mark.RIGHT_BRACE)) (λ x y v r h f. tt)
          ((expect_reader (Mark mark.LEFT_BRACE)).complete l)
          (λ x. both_complete items (λ x. sign_notion (Mark mark.RIGHT_BRACE)) l (many goes_on p) (λ x.
          the_mark mark.RIGHT_BRACE) items_follow items_complete (λ x.
          (expect_reader (Mark mark.RIGHT_BRACE)).complete l)))

      pub else_complete : Complete else_notion l (else_of p)
      else_complete =
          maybe_complete otherwise_notion (is_word word.ELSE) else_opens l (else_run p)
          (made_complete else_parts otherwise_notion (λ x. x.1) otherwise_image l (both (the_word word.ELSE) (braced p))
          (both_complete (sign_notion (Reserved word.ELSE)) (λ x. braced_notion) l (the_word word.ELSE) (λ x.
          braced p) (λ x y v r h f. tt) ((expect_reader (Reserved word.ELSE)).complete l) (λ x. braced_complete)))

  -- ---- the first fault
  module _ (p : Limits → Parser Statement) (hs : (m : Limits) → Sound N m (p m)) (hc : (m : Limits) →
      Complete N m (p m)) (l : Limits) (pos : 1 ≤ l.depth) (hf : First N p l) where
    pub items_first : First items (λ m. many goes_on (p m)) l
    items_first = many_first N goes_on next opens solid l p hs hc hf

    pub braced_first : First braced_notion (λ m. braced (p m)) l
    braced_first =
        into_first braced_parts braced_notion braced_value l (as_into braced_image l) (λ m.
        both (the_mark mark.LEFT_BRACE) (both (many goes_on (p m)) (the_mark mark.RIGHT_BRACE)))
        (both_first (sign_notion (Mark mark.LEFT_BRACE)) (λ x.
        both_notion items (sign_notion (Mark mark.RIGHT_BRACE))) l (λ m. the_mark mark.LEFT_BRACE) (λ x m.
        both (many goes_on (p m)) (the_mark mark.RIGHT_BRACE)) (λ x y v r h f. tt)
        (λ x. let w = (expect_reader (Mark mark.RIGHT_BRACE)).word l pos in
        (([], w.0), w.1, record { front = []; back = w.1; whole = refl; first = refl; second = w.2 }, (tt, w.3)))
        ((expect_reader (Mark mark.LEFT_BRACE)).sound l) (λ m c. (expect_reader (Mark mark.LEFT_BRACE)).complete m)
        ((expect_reader (Mark mark.LEFT_BRACE)).first l pos)
        (λ x. both_first items (λ x. sign_notion (Mark mark.RIGHT_BRACE)) l (λ m. many goes_on (p m)) (λ x m.
        the_mark mark.RIGHT_BRACE) items_follow (λ x. (expect_reader (Mark mark.RIGHT_BRACE)).word l pos)
        (items_sound l (p l) (hs l)) (λ m c. items_complete m (p m) (hs m) (hc m)) items_first (λ x.
        (expect_reader (Mark mark.RIGHT_BRACE)).first l pos)))

    pub else_first : First else_notion (λ m. else_of (p m)) l
    else_first =
        maybe_first otherwise_notion (is_word word.ELSE) else_opens l (λ m. else_run (p m))
        (into_first else_parts otherwise_notion (λ x. x.1) l (as_into otherwise_image l) (λ m.
        both (the_word word.ELSE) (braced (p m)))
        (both_first (sign_notion (Reserved word.ELSE)) (λ x. braced_notion) l (λ m. the_word word.ELSE) (λ x m.
        braced (p m)) (λ x y v r h f. tt)
        (λ x. (End, empty_block, empty_reads, omega arith))
        ((expect_reader (Reserved word.ELSE)).sound l) (λ m c. (expect_reader (Reserved word.ELSE)).complete m)
        ((expect_reader (Reserved word.ELSE)).first l pos) (λ x. braced_first)))
