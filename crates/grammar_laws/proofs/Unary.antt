-- What begins with one token.
use Rattle.std.proofs.Common.{◌≡◌, ℕ, ℤ, pos, zero, suc, pred, max, ◌≤◌, Bool, true, false, cond, List, [], ◌∷◌, ◌++◌, Option, None, Some, Ok, refl, sym, ap, ◌∙◌, arith, inl, inr, ◌⊎◌}
use Rattle.std.proofs.lemmas.List.{append-nil}
use Rattle.vert_base.specs.declared.text.Span.{Span}
use Rattle.vert_lex.specs.declared.marks.TheConstants as mark
use Rattle.vert_lex.specs.declared.words.TheConstants as word
use Rattle.vert_lex.specs.Text.{Placed}
use Rattle.vert_lex.specs.Tokens.{Kind, Reserved, Mark, Number, Name}
use Rattle.vert_tree.specs.declared.expression.Builtin.{Builtin}
use Rattle.vert_tree.specs.declared.expression.Builtin.TheVariants.{Id, Count, Round, InDeg, OutDeg, Active, Weight}
use Rattle.vert_tree.specs.Plain.{nowhere}
use Rattle.vert_tree.specs.Trees.{Named, Tree, Literal, Truth, Word, Variable, Got, Value, OtherField, OtherWord, Draw, Negative, Not, Pair, Choice, Least, Greatest, Group, depth}
use Rattle.vert_grammar.specs.Faults.{Unexpected}
use Rattle.vert_grammar.specs.Grammar.{Form, Then, TheMark, Limits, Reads}
use Rattle.vert_grammar.specs.Reading.{Res, Parser, ◌>>=◌, stop, both, begins, if_begins, unless, single, the_mark, node, is_atom, atom_of, member_of, named_at, other_of, other_at, draw_at, draw_of, grouped, two_of, prefixed, unary, climb, tree_at}
use Rattle.vert_grammar.specs.Signs.{token, is_mark, is_word, is_name, builtin_of, builtin_word, truth_word}
use Rattle.vert_grammar.proofs.Steps.{unary_is}
use Rattle.grammar_laws.specs.Notions.{Covers, deep, SameHead, Notion, Sound, Complete, First, HasWord, Follows, both_notion, free_notion, IsInto, IsNode, SoundWhere, FirstWhere}
use Rattle.grammar_laws.proofs.Readers.{begins_same, both_sound, both_complete, both_first}
use Rattle.grammar_laws.proofs.Signs.{sign_notion, expect_reader}
use Rattle.grammar_laws.proofs.Laws.{into_sound, into_first, recast_sound, recast_first}
use Rattle.grammar_laws.proofs.Either.{either_sound, either_first, unless_notion, unless_sound, unless_complete, unless_first, node_sound, node_first, node_goes}
use Rattle.grammar_laws.proofs.Operators.{layer_of_pos}
use Rattle.grammar_laws.proofs.Trees.{tree_notion, tree_run, ends_no_dot, no_dot_ends, depth_pos, leaf, leaf_tokens, leaf_reads, free_close, free_comma}
use Rattle.grammar_laws.proofs.Atoms.{NoDot, MayEnd, ReadsAtom, atom_reader, named_notion, named_reader, other_notion, other_reader, draw_notion, draw_reader}
use Rattle.grammar_laws.proofs.Parentheses.{prefix_notion, negative_node, not_node, close, comma, opened, group_notion, group_of, group_node, comma_notion, operands_notion, two_notion, least_of, greatest_of, least_node, greatest_node, group_run, two_run, group_sound, two_sound, group_complete, two_complete, group_first, two_first}

-- ---- atoms as expressions
module _ (l : Limits) (pos : 1 ≤ l.depth) where
  atom_into : IsInto (free_notion ReadsAtom) prefix_notion (λ x. x) l
  atom_into = record { form = form; within = within; shallow = within; follow = follow }
    where
      form : (x : Tree) (u : List Placed) → ReadsAtom x u → Reads 0 x u
      form (Literal s value) u h = h
      form (Truth s value) u h = h
      form (Word s w) u h = h
      form _ u h = absurd h

      within : (x : Tree) (u : List Placed) → ReadsAtom x u → Unit {0} → depth x ≤ l.depth
      within (Literal s value) u h w = pos
      within (Truth s value) u h w = pos
      within (Word s w) u h w' = pos
      within _ u h w = absurd h

      follow : (x : Tree) (u r : List Placed) → ReadsAtom x u → Unit {0} → MayEnd x r
      follow (Literal s value) u r h f = tt
      follow (Truth s value) u r h f = tt
      follow (Word s w) u r h f = tt
      follow _ u r h f = absurd h

  named_into : IsInto named_notion prefix_notion member_of l
  named_into = record {
    form = form;
    within = λ x u f. within x;
    shallow = λ x u f. within x;
    follow = λ x u r f.
        follow x r;
  }
    where
      form : (x : Named × Option Bool) (u : List Placed) → named_notion.form x u → Reads 0 (member_of x) u
      form (name, None) u h = (refl, h.whole ∙ ap (λ v. h.front ++ v) h.second ∙ append-nil h.front ∙ h.first)
      form (name, Some true) u h = (
        refl,
        record {
          front = h.front;
          back = h.back;
          whole = h.whole;
          first = h.first;
          second = h.second;
        },
      )
      form (name, Some false) u h = (
        refl,
        record { front = h.front; back = h.back; whole = h.whole; first = h.first; second = h.second },
      )

      within : (x : Named × Option Bool) (h : named_notion.within l x) → depth (member_of x) ≤ l.depth
      within (name, None) h = pos
      within (name, Some true) h = pos
      within (name, Some false) h = pos

      follow : (x : Named × Option Bool) (r : List Placed) → named_notion.follow x r → MayEnd (member_of x) r
      follow (name, None) r h = h
      follow (name, Some true) r h = tt
      follow (name, Some false) r h = tt

  other_into : IsInto other_notion prefix_notion other_of l
  other_into = record {
    form = form;
    within = λ x u f. within x;
    shallow = λ x u f. within x;
    follow = λ x u r f.
        follow x r;
  }
    where
      form : (x : Span × (Span × (Named ⊎ Builtin))) (u : List Placed) → other_notion.form x u → Reads 0 (other_of x) u
      form (s, (d, inl name)) u h =
          let b = h.second in record {
            front = h.front;
            back = h.back;
            whole = h.whole;
            first = h.first;
            second = record {
              front = b.front;
              back = b.back;
              whole = b.whole;
              first = (d, b.first);
              second = b.second;
            };
          }
      form (s, (d, inr w)) u h =
          let b = h.second in (
            b.second.0,
            record {
              front = h.front;
              back = h.back;
              whole = h.whole;
              first = h.first;
              second = record {
                front = b.front;
                back = b.back;
                whole = b.whole;
                first = (d, b.first);
                second = b.second.1;
              };
            },
          )

      within : (x : Span × (Span × (Named ⊎ Builtin))) (h : other_notion.within l x) → depth (other_of x) ≤ l.depth
      within (s, (d, inl name)) h = pos
      within (s, (d, inr w)) h = pos

      follow : (x : Span × (Span × (Named ⊎ Builtin))) (r : List Placed) → other_notion.follow x r →
          MayEnd (other_of x) r
      follow (s, (d, inl name)) r h = tt
      follow (s, (d, inr w)) r h = tt

  draw_into : IsInto draw_notion prefix_notion draw_of l
  draw_into = record {
    form = λ x u h.
        let b = h.second in
        let c = b.second in
        record {
          front = h.front;
          back = h.back;
          whole = h.whole;
          first = h.first;
          second = record {
            front = b.front;
            back = b.back;
            whole = b.whole;
            first = (x.1.0, b.first);
            second = record {
              front = c.front;
              back = c.back;
              whole = c.whole;
              first = c.first;
              second = (x.1.1.1, c.second);
            };
          };
        };
    within = λ x u f h. pos;
    shallow = λ x u f h. pos;
    follow = λ x u r f h. tt;
  }

-- ---- the choice by the first token, from each test on
abbrev from_atom : Limits → Parser Tree
from_atom m = single is_atom atom_of

abbrev from_draw : Limits → Parser Tree
from_draw m = if_begins (is_word word.DRAW) draw_at (from_atom m)

abbrev from_other : Limits → Parser Tree
from_other m = if_begins (is_word word.U) other_at (from_draw m)

abbrev from_name : Limits → Parser Tree
from_name m = if_begins is_name named_at (from_other m)

abbrev from_max : Limits → Parser Tree
from_max m = if_begins (is_word word.MAX) (node (pred m.depth) greatest_of (two_of (tree_at (pred m.depth))))
    (from_name m)

abbrev from_min : Limits → Parser Tree
from_min m = if_begins (is_word word.MIN) (node (pred m.depth) least_of (two_of (tree_at (pred m.depth)))) (from_max m)

abbrev from_group : Limits → Parser Tree
from_group m = if_begins (is_mark mark.LEFT_PARENTHESIS)
    (node (pred m.depth) group_of (grouped (tree_at (pred m.depth)))) (from_min m)

abbrev from_not : Limits → Parser Tree
from_not m = if_begins (is_mark mark.NOT) (node (pred m.depth) Not (tree_at (pred m.depth) 0)) (from_group m)

abbrev pub prefix_run : Limits → Parser Tree
prefix_run m = if_begins (is_mark mark.MINUS) (node (pred m.depth) Negative (tree_at (pred m.depth) 0)) (from_not m)

-- ---- what is read is of the grammar
module _ (l : Limits) (pos : 1 ≤ l.depth) where
  atom_sound : Sound prefix_notion l (single is_atom atom_of)
  atom_sound = recast_sound (free_notion ReadsAtom) prefix_notion l (atom_into l pos) (single is_atom atom_of)
      (atom_reader.sound l)

  named_sound : Sound prefix_notion l named_at
  unfolding named_at
  named_sound = into_sound named_notion prefix_notion member_of l (named_into l pos) _ (named_reader.sound l)

  other_sound : Sound prefix_notion l other_at
  unfolding other_at
  other_sound = into_sound other_notion prefix_notion other_of l (other_into l pos) _ (other_reader.sound l)

  draw_sound : Sound prefix_notion l draw_at
  unfolding draw_at
  draw_sound = into_sound draw_notion prefix_notion draw_of l (draw_into l pos) _ (draw_reader.sound l)

  atom_first : First prefix_notion (λ m. single is_atom atom_of) l
  atom_first = recast_first (free_notion ReadsAtom) prefix_notion l (atom_into l pos) (λ m. single is_atom atom_of)
      (λ m. single is_atom atom_of) (λ m us c. refl) (atom_reader.first l pos)

  named_first : First prefix_notion (λ m. named_at) l
  unfolding named_at
  named_first = into_first named_notion prefix_notion member_of l (named_into l pos) _ (named_reader.first l pos)

  other_first : First prefix_notion (λ m. other_at) l
  unfolding other_at
  other_first = into_first other_notion prefix_notion other_of l (other_into l pos) _ (other_reader.first l pos)

  draw_first : First prefix_notion (λ m. draw_at) l
  unfolding draw_at
  draw_first = into_first draw_notion prefix_notion draw_of l (draw_into l pos) _ (draw_reader.first l pos)

anywhere : {A : Type 0} (f : Kind → Bool) (N : Notion A) (l : Limits) (p : Parser A) → Sound N l p → SoundWhere f N l p
anywhere f N l p h ts x r o e = h ts x r e

at_first : {A : Type 0} (f : Kind → Bool) (N : Notion A) (l : Limits) (p : Limits → Parser A) → First N p l →
    FirstWhere f N p l
at_first f N l p h ts s o e = h ts s e

module _ (l : Limits) (b : ℕ) (ih : (k : ℕ) → k ≤ 6 → Sound (tree_notion k) (deep l b) (tree_at b k)) where
  abbrev here : Limits
  here = deep l (suc b)

  prefix_sound : Sound prefix_notion (deep l (suc b)) (prefix_run (deep l (suc b)))
  prefix_sound =
      either_sound prefix_notion (is_mark mark.MINUS) here _ _
      (node_sound (tree_notion 0) prefix_notion (Mark mark.MINUS) Negative negative_node l b (tree_at b 0)
      (ih 0 (omega arith)))
      (either_sound prefix_notion (is_mark mark.NOT) here _ _
      (node_sound (tree_notion 0) prefix_notion (Mark mark.NOT) Not not_node l b (tree_at b 0) (ih 0 (omega arith)))
      (either_sound prefix_notion (is_mark mark.LEFT_PARENTHESIS) here _ _
      (node_sound group_notion prefix_notion opened group_of group_node l b (grouped (tree_at b))
      (group_sound (deep l b) (ih 6 (omega arith))))
      (either_sound prefix_notion (is_word word.MIN) here _ _
      (node_sound two_notion prefix_notion (Reserved word.MIN) least_of least_node l b (two_of (tree_at b))
      (two_sound (deep l b) (ih 6 (omega arith))))
      (either_sound prefix_notion (is_word word.MAX) here _ _
      (node_sound two_notion prefix_notion (Reserved word.MAX) greatest_of greatest_node l b (two_of (tree_at b))
      (two_sound (deep l b) (ih 6 (omega arith))))
      (either_sound prefix_notion is_name here _ _
      (anywhere is_name prefix_notion here named_at (named_sound here (omega arith)))
      (either_sound prefix_notion (is_word word.U) here _ _
      (anywhere (is_word word.U) prefix_notion here other_at (other_sound here (omega arith)))
      (either_sound prefix_notion (is_word word.DRAW) here _ _
      (anywhere (is_word word.DRAW) prefix_notion here draw_at (draw_sound here (omega arith)))
      (atom_sound here (omega arith)))))))))

-- ---- a fault is the first
module _ (l : Limits) (b : ℕ) (sound : Sound (tree_notion 6) (deep l b) (tree_at b 6)) (complete : (m : Limits) →
    Complete (tree_notion 6) m (tree_at m.depth 6)) (first : 1 ≤ b → (k : ℕ) → k ≤ 6 →
    First (tree_notion k) (tree_run k) (deep l b)) where
  abbrev there : Limits
  there = deep l (suc b)

  prefix_word : HasWord prefix_notion there
  prefix_word = (leaf, leaf_tokens, leaf_reads 0, omega arith)

  groups : 1 ≤ b → First group_notion group_run (deep l b)
  groups some = group_first (deep l b) some sound (λ m c. complete m) (first some 6 (omega arith))

  twos : 1 ≤ b → First two_notion two_run (deep l b)
  twos some = two_first (deep l b) some sound (λ m c. complete m) (first some 6 (omega arith))

  a_group : (x : Tree × Span) × (u : List Placed) × group_notion.form x u
  a_group = (
    (leaf, nowhere),
    leaf_tokens ++ token nowhere close ∷ [],
    record {
      front = leaf_tokens;
      back = token nowhere close ∷ [];
      whole = refl;
      first = leaf_reads 6;
      second = refl;
    },
  )

  a_two : (x : Span × (Tree × (Span × (Tree × Span)))) × (u : List Placed) × two_notion.form x u
  a_two =
      let g = a_group in
      let c : comma_notion.form (nowhere, g.0) (token nowhere comma ∷ g.1) =
      record { front = token nowhere comma ∷ []; back = g.1; whole = refl; first = refl; second = g.2 } in
      let o : operands_notion.form (leaf, (nowhere, g.0)) (leaf_tokens ++ token nowhere comma ∷ g.1) =
      record {
        front = leaf_tokens;
        back = token nowhere comma ∷ g.1;
        whole = refl;
        first = leaf_reads 6;
        second = c;
      } in (
        (nowhere, (leaf, (nowhere, g.0))),
        token nowhere opened ∷ (leaf_tokens ++ token nowhere comma ∷ g.1),
        record {
          front = token nowhere opened ∷ [];
          back = leaf_tokens ++ token nowhere comma ∷ g.1;
          whole = refl;
          first = refl;
          second = o;
        },
      )

  prefix_first : First prefix_notion prefix_run there
  prefix_first =
      either_first prefix_notion (is_mark mark.MINUS) there (λ m.
      node (pred m.depth) Negative (tree_at (pred m.depth) 0)) from_not
      (node_first (tree_notion 0) prefix_notion (Mark mark.MINUS) Negative negative_node l b (tree_run 0) (λ pos.
      first pos 0 (omega arith)) prefix_word leaf leaf_tokens (leaf_reads 0))
      (either_first prefix_notion (is_mark mark.NOT) there (λ m. node (pred m.depth) Not (tree_at (pred m.depth) 0))
      from_group
      (node_first (tree_notion 0) prefix_notion (Mark mark.NOT) Not not_node l b (tree_run 0) (λ pos.
      first pos 0 (omega arith)) prefix_word leaf leaf_tokens (leaf_reads 0))
      (either_first prefix_notion (is_mark mark.LEFT_PARENTHESIS) there (λ m.
      node (pred m.depth) group_of (grouped (tree_at (pred m.depth)))) from_min
      (node_first group_notion prefix_notion opened group_of group_node l b group_run groups prefix_word a_group.0
      a_group.1 a_group.2)
      (either_first prefix_notion (is_word word.MIN) there (λ m.
      node (pred m.depth) least_of (two_of (tree_at (pred m.depth)))) from_max
      (node_first two_notion prefix_notion (Reserved word.MIN) least_of least_node l b two_run twos prefix_word
      a_two.0 a_two.1 a_two.2)
      (either_first prefix_notion (is_word word.MAX) there (λ m.
      node (pred m.depth) greatest_of (two_of (tree_at (pred m.depth)))) from_name
      (node_first two_notion prefix_notion (Reserved word.MAX) greatest_of greatest_node l b two_run twos prefix_word
      a_two.0 a_two.1 a_two.2)
      (either_first prefix_notion is_name there (λ m. named_at) from_other
      (at_first is_name prefix_notion there (λ m. named_at) (named_first there (omega arith)))
      (either_first prefix_notion (is_word word.U) there (λ m. other_at) from_draw
      (at_first (is_word word.U) prefix_notion there (λ m. other_at) (other_first there (omega arith)))
      (either_first prefix_notion (is_word word.DRAW) there (λ m. draw_at) from_atom
      (at_first (is_word word.DRAW) prefix_notion there (λ m. draw_at) (draw_first there (omega arith)))
      (atom_first there (omega arith)))))))))

-- ---- what is of the grammar is read
-- what an alternative reads, the choice does
module _ (b : ℕ) (below : ℕ → Parser Tree) (s : Span) (ts : List Placed) where
  goes_negative : prefixed b below (token s (Mark mark.MINUS) ∷ ts)
      ≡ node b Negative (below 0) (token s (Mark mark.MINUS) ∷ ts)
  unfolding prefixed
  goes_negative = refl

  goes_not : prefixed b below (token s (Mark mark.NOT) ∷ ts) ≡ node b Not (below 0) (token s (Mark mark.NOT) ∷ ts)
  unfolding prefixed
  goes_not = refl

  goes_group : prefixed b below (token s opened ∷ ts) ≡ node b group_of (grouped below) (token s opened ∷ ts)
  unfolding prefixed
  goes_group = refl

  goes_least : prefixed b below (token s (Reserved word.MIN) ∷ ts)
      ≡ node b least_of (two_of below) (token s (Reserved word.MIN) ∷ ts)
  unfolding prefixed
  goes_least = refl

  goes_greatest : prefixed b below (token s (Reserved word.MAX) ∷ ts)
      ≡ node b greatest_of (two_of below) (token s (Reserved word.MAX) ∷ ts)
  unfolding prefixed
  goes_greatest = refl

  goes_name : (text : List ℕ) → prefixed b below (token s (Name text) ∷ ts) ≡ named_at (token s (Name text) ∷ ts)
  unfolding prefixed
  goes_name text = refl

  goes_other : prefixed b below (token s (Reserved word.U) ∷ ts) ≡ other_at (token s (Reserved word.U) ∷ ts)
  unfolding prefixed
  goes_other = refl

  goes_draw : prefixed b below (token s (Reserved word.DRAW) ∷ ts) ≡ draw_at (token s (Reserved word.DRAW) ∷ ts)
  unfolding prefixed
  goes_draw = refl

  goes_number : (n : ℕ) → prefixed b below (token s (Number n) ∷ ts) ≡ Ok (Literal s (pos n), ts)
  unfolding prefixed single
  goes_number n = refl

  goes_truth : (v : Bool) → prefixed b below (token s (Reserved (truth_word v)) ∷ ts) ≡ Ok (Truth s v, ts)
  unfolding prefixed single
  goes_truth true = refl
  goes_truth false = refl

  goes_word : (w : Builtin) → prefixed b below (token s (Reserved (builtin_word w)) ∷ ts) ≡ Ok (Word s w, ts)
  unfolding prefixed single builtin_of
  goes_word Id = refl
  goes_word Count = refl
  goes_word Round = refl
  goes_word InDeg = refl
  goes_word OutDeg = refl
  goes_word Active = refl
  goes_word Weight = refl

-- any limits: what stands alone has no depth
abbrev no_limits : Limits
no_limits = record { depth = 0; fields = 0; slots = 0; totals = 0; lets = 0; sends = 0 }

named_goes : (x : Named × Option Bool) (u r : List Placed) → named_notion.form x u → named_notion.follow x r →
    named_notion.within no_limits x → named_at (u ++ r) ≡ Ok (member_of x, r)
unfolding named_at
named_goes x u r h f w = let e = named_reader.complete no_limits x u r h w f in rw e refl

other_goes : (x : Span × (Span × (Named ⊎ Builtin))) (u r : List Placed) → other_notion.form x u →
    other_at (u ++ r) ≡ Ok (other_of x, r)
unfolding other_at
other_goes x u r h = let e = other_reader.complete no_limits x u r h (tt, (tt, tt)) tt in rw e refl

draw_goes : (x : Span × (Span × ((Span × ℕ) × Span))) (u r : List Placed) → draw_notion.form x u →
    draw_at (u ++ r) ≡ Ok (draw_of x, r)
unfolding draw_at
draw_goes x u r h = let e = draw_reader.complete no_limits x u r h (tt, (tt, (tt, tt))) tt in rw e refl

abbrev ReadsTwo : Tree → Tree → Form
ReadsTwo left right = Then (TheMark mark.LEFT_PARENTHESIS)
    (Then (Reads 6 left) (Then (TheMark mark.COMMA) (Then (Reads 6 right) (TheMark mark.RIGHT_PARENTHESIS))))

abbrev two_parts : (left right : Tree) (u : List Placed) → ReadsTwo left right u → Span ×
    (Tree × (Span × (Tree × Span)))
two_parts left right u h = (h.first.0, (left, (h.second.second.first.0, (right, h.second.second.second.second.0))))

two_back : (left right : Tree) (u : List Placed) (h : ReadsTwo left right u) →
    two_notion.form (two_parts left right u h) u
two_back left right u h =
    let b = h.second in let c = b.second in let d = c.second in
    record {
      front = h.front;
      back = h.back;
      whole = h.whole;
      first = h.first.1;
      second = record {
        front = b.front;
        back = b.back;
        whole = b.whole;
        first = b.first;
        second = record {
          front = c.front;
          back = c.back;
          whole = c.whole;
          first = c.first.1;
          second = record { front = d.front; back = d.back; whole = d.whole; first = d.first; second = d.second.1 };
        };
      };
    }

module _ (l : Limits) (b : ℕ) (ih : (k : ℕ) → k ≤ 6 → Complete (tree_notion k) (deep l b) (tree_at b k)) where
  abbrev run : Parser Tree
  run = prefixed b (tree_at b)

  -- a token in front of the rest
  cut : (s : Span) (k : Kind) (front back u r : List Placed) → u ≡ front ++ back → front ≡ token s k ∷ [] →
      u ++ r ≡ token s k ∷ (back ++ r)
  cut s k front back u r e f = rw (e, f) refl

  enough : (x : Tree) → suc (depth x) ≤ suc b → 1 ≤ b
  enough x w = let p = depth_pos x in omega arith

  -- where the choice goes to a reader of its own
  through : (s : Span) (k : Kind) (v w : List Placed) (p : Parser Tree) → w ≡ token s k ∷ v →
      run (token s k ∷ v) ≡ p (token s k ∷ v) → run w ≡ p w
  through s k v w p e g = ap run e ∙ g ∙ sym (ap p e)

  two : (left right : Tree) (u r : List Placed) (h : ReadsTwo left right u) →
      suc (max (depth left) (depth right)) ≤ suc b → two_of (tree_at b) (u ++ r) ≡ Ok (two_parts left right u h, r)
  two left right u r h w = two_complete (deep l b) (ih 6 (omega arith)) (two_parts left right u h) u r
      (two_back left right u h) (tt, (omega arith, (tt, (omega arith, tt)))) tt

  module _ (s : Span) (name : Named) (x : Option Bool) (u r back : List Placed) where
    member : s ≡ name.span → u ++ r ≡ token name.span (Name name.text) ∷ (back ++ r) →
        named_notion.form (name, x) u → named_notion.follow (name, x) r →
        named_notion.within no_limits (name, x) → run (u ++ r) ≡ Ok (member_of (name, x), r)
    member e c form f w = through name.span (Name name.text) (back ++ r) (u ++ r) named_at c
        (goes_name b (tree_at b) name.span (back ++ r) name.text) ∙ named_goes (name, x) u r form f w

  prefix_complete : Complete prefix_notion (deep l (suc b)) (prefixed b (tree_at b))
  prefix_complete (Literal s value) u r h w f = ap (λ v. run (v ++ r)) h.2 ∙ goes_number b (tree_at b) s r h.0
      ∙ ap (λ (v : ℤ). Ok (Literal s v, r)) (sym h.1)
  prefix_complete (Truth s value) u r h w f = ap (λ v. run (v ++ r)) h ∙ goes_truth b (tree_at b) s r value
  prefix_complete (Word s v) u r h w f = ap (λ v. run (v ++ r)) h ∙ goes_word b (tree_at b) s r v
  prefix_complete (Variable s name) u r h w f =
      member s name None u r [] h.0 (ap (λ v. v ++ r) h.1)
      (record { front = u; back = []; whole = sym (append-nil u); first = h.1; second = refl }) f (tt, tt)
      ∙ ap (λ (p : Span). Ok (Variable p name, r)) (sym h.0)
  prefix_complete (Got s name) u r h w f =
      let g = h.1 in
      member s name (Some true) u r g.back h.0 (cut name.span (Name name.text) g.front g.back u r g.whole g.first)
      (record { front = g.front; back = g.back; whole = g.whole; first = g.first; second = g.second }) tt (tt, tt)
      ∙ ap (λ (p : Span). Ok (Got p name, r)) (sym h.0)
  prefix_complete (Value s name) u r h w f =
      let g = h.1 in
      member s name (Some false) u r g.back h.0 (cut name.span (Name name.text) g.front g.back u r g.whole g.first)
      (record { front = g.front; back = g.back; whole = g.whole; first = g.first; second = g.second }) tt (tt, tt)
      ∙ ap (λ (p : Span). Ok (Value p name, r)) (sym h.0)
  prefix_complete (OtherField s name) u r h w f =
      let g = h.second in
      through s (Reserved word.U) (h.back ++ r) (u ++ r) other_at
      (cut s (Reserved word.U) h.front h.back u r h.whole h.first) (goes_other b (tree_at b) s (h.back ++ r))
      ∙ other_goes (s, (g.first.0, inl name)) u r
      (record {
        front = h.front;
        back = h.back;
        whole = h.whole;
        first = h.first;
        second = record { front = g.front; back = g.back; whole = g.whole; first = g.first.1; second = g.second };
      })
  prefix_complete (OtherWord s v) u r h w f =
      let o = h.1 in
      let g = o.second in
      through s (Reserved word.U) (o.back ++ r) (u ++ r) other_at
      (cut s (Reserved word.U) o.front o.back u r o.whole o.first) (goes_other b (tree_at b) s (o.back ++ r))
      ∙ other_goes (s, (g.first.0, inr v)) u r
      (record {
        front = o.front;
        back = o.back;
        whole = o.whole;
        first = o.first;
        second = record {
          front = g.front;
          back = g.back;
          whole = g.whole;
          first = g.first.1;
          second = (h.0, g.second);
        };
      })
  prefix_complete (Draw s at number) u r h w f =
      let g = h.second in
      let c = g.second in
      through s (Reserved word.DRAW) (h.back ++ r) (u ++ r) draw_at
      (cut s (Reserved word.DRAW) h.front h.back u r h.whole h.first) (goes_draw b (tree_at b) s (h.back ++ r))
      ∙ draw_goes (s, (g.first.0, ((at, number), c.second.0))) u r (record {
        front = h.front;
        back = h.back;
        whole = h.whole;
        first = h.first;
        second = record {
          front = g.front;
          back = g.back;
          whole = g.whole;
          first = g.first.1;
          second = record { front = c.front; back = c.back; whole = c.whole; first = c.first; second = c.second.1 };
        };
      })
  prefix_complete (Negative s e) u r h w f =
      ap run (cut s (Mark mark.MINUS) h.front h.back u r h.whole h.first) ∙ goes_negative b (tree_at b) s (h.back ++ r)
      ∙ node_goes (tree_notion 0) prefix_notion (Mark mark.MINUS) Negative negative_node b (tree_at b 0)
      (token s (Mark mark.MINUS)) (h.back ++ r) e r (enough e w)
      (ih 0 (omega arith) e h.back r h.second (omega arith) (no_dot_ends r f))
  prefix_complete (Not s e) u r h w f =
      ap run (cut s (Mark mark.NOT) h.front h.back u r h.whole h.first) ∙ goes_not b (tree_at b) s (h.back ++ r)
      ∙ node_goes (tree_notion 0) prefix_notion (Mark mark.NOT) Not not_node b (tree_at b 0) (token s (Mark mark.NOT))
      (h.back ++ r) e r (enough e w) (ih 0 (omega arith) e h.back r h.second (omega arith) (no_dot_ends r f))
  prefix_complete (Group s e) u r h w f =
      let g = h.second in
      let c = group_complete (deep l b) (ih 6 (omega arith)) (e, g.second.0) h.back r
      (record { front = g.front; back = g.back; whole = g.whole; first = g.first; second = g.second.1 })
      (omega arith, tt) tt in
      ap run (cut s opened h.front h.back u r h.whole h.first) ∙ goes_group b (tree_at b) s (h.back ++ r)
      ∙ node_goes group_notion prefix_notion opened group_of group_node b (grouped (tree_at b)) (token s opened)
      (h.back ++ r) (e, g.second.0) r (enough e w) c
  prefix_complete (Least s left right) u r h w f =
      let g = h.second in
      ap run (cut s (Reserved word.MIN) h.front h.back u r h.whole h.first) ∙ goes_least b (tree_at b) s (h.back ++ r)
      ∙ node_goes two_notion prefix_notion (Reserved word.MIN) least_of least_node b (two_of (tree_at b))
      (token s (Reserved word.MIN)) (h.back ++ r) (two_parts left right h.back g) r (let p = depth_pos left in
      omega arith) (two left right h.back r g w)
  prefix_complete (Greatest s left right) u r h w f =
      let g = h.second in
      ap run (cut s (Reserved word.MAX) h.front h.back u r h.whole h.first)
      ∙ goes_greatest b (tree_at b) s (h.back ++ r)
      ∙ node_goes two_notion prefix_notion (Reserved word.MAX) greatest_of greatest_node b (two_of (tree_at b))
      (token s (Reserved word.MAX)) (h.back ++ r) (two_parts left right h.back g) r (let p = depth_pos left in
      omega arith) (two left right h.back r g w)
  prefix_complete (Pair s op left right) u r h w f = absurd (let p = layer_of_pos op in let q = h.0 in omega arith)
  prefix_complete (Choice s test held otherwise) u r h w f = absurd (let q = h.0 in omega arith)

unary_unless : (b : ℕ) (ts : List Placed) →
    unary b (tree_at b) ts ≡ unless (is_mark mark.DOT) (prefixed b (tree_at b)) ts
unfolding unary
unary_unless b ts = refl

prefix_is : (m : Limits) (ts : List Placed) → prefixed (pred m.depth) (tree_at (pred m.depth)) ts ≡ prefix_run m ts
unfolding prefixed
prefix_is m ts = refl

abbrev dotless : Notion Tree
dotless = unless_notion prefix_notion (is_mark mark.DOT)

any_may_end : (x : Tree) (r : List Placed) → NoDot r → MayEnd x r
any_may_end (Variable s name) r h = h
any_may_end (Negative s e) r h = h
any_may_end (Not s e) r h = h
any_may_end _ r h = tt

dotless_into : (l : Limits) → IsInto dotless (tree_notion 0) (λ x. x) l
dotless_into l = record {
  form = λ x u h. h;
  within = λ x u f h. h;
  shallow = λ x u f h. h;
  follow = λ x u r f h.
      no_dot_ends r h.1;
}

pub unary_sound : (l : Limits) (b : ℕ) → ((k : ℕ) → k ≤ 6 → Sound (tree_notion k) (deep l b) (tree_at b k)) →
    Sound (tree_notion 0) (deep l (suc b)) (tree_at (suc b) 0)
unary_sound l b ih ts x r e =
    recast_sound dotless (tree_notion 0) (deep l (suc b)) (dotless_into (deep l (suc b)))
    (unless (is_mark mark.DOT) (prefix_run (deep l (suc b))))
    (unless_sound prefix_notion (is_mark mark.DOT) (deep l (suc b)) (prefix_run (deep l (suc b)))
    (prefix_sound l b ih)) ts x r
    (sym (whole ts) ∙ e)
  where
    whole : (ts : List Placed) → tree_at (suc b) 0 ts ≡ unless (is_mark mark.DOT) (prefix_run (deep l (suc b))) ts
    whole ts = unary_is b ts ∙ unary_unless b ts
        ∙ ap (λ (w : Res Tree). w >>= λ x. cond (begins (is_mark mark.DOT) x.1) (stop Unexpected x.1) (Ok x))
        (prefix_is (deep l (suc b)) ts)

pub unary_complete : (l : Limits) (b : ℕ) → ((k : ℕ) → k ≤ 6 → Complete (tree_notion k) (deep l b) (tree_at b k)) →
    Complete (tree_notion 0) (deep l (suc b)) (tree_at (suc b) 0)
unary_complete l b ih x u r h w f =
    unary_is b (u ++ r) ∙ unary_unless b (u ++ r)
    ∙ unless_complete prefix_notion (is_mark mark.DOT) (deep l (suc b)) (prefixed b (tree_at b))
    (prefix_complete l b ih) x u r h w (any_may_end x r (ends_no_dot r f), ends_no_dot r f)

-- under limits that allow a node
run_is : (m : Limits) (n : ℕ) (ts : List Placed) → m.depth ≡ suc n →
    tree_at m.depth 0 ts ≡ unless (is_mark mark.DOT) (prefix_run m) ts
run_is m n ts e =
    ap (λ j. tree_at j 0 ts) e ∙ unary_is n ts ∙ unary_unless n ts
    ∙ ap (λ (w : Res Tree). w >>= λ x. cond (begins (is_mark mark.DOT) x.1) (stop Unexpected x.1) (Ok x))
    (sym (ap (λ j. prefixed j (tree_at j) ts) (ap pred e)) ∙ prefix_is m ts)

run_complete : (m : Limits) (n : ℕ) → m.depth ≡ suc n →
    ((m : Limits) (k : ℕ) → k ≤ 6 → Complete (tree_notion k) m (tree_at m.depth k)) →
    Complete prefix_notion m (prefix_run m)
run_complete m n e complete x u r h w f =
    sym (prefix_is m (u ++ r)) ∙ ap (λ j. prefixed j (tree_at j) (u ++ r)) (ap pred e)
    ∙ prefix_complete m n (λ k le. complete (deep m n) k le) x u r h (omega arith) f

one_more : (n : ℕ) → 1 ≤ n → (k : ℕ) × (n ≡ suc k)
one_more zero le = absurd (omega arith)
one_more (suc k) le = (k, refl)

pub unary_first : (l : Limits) (b : ℕ) → ((m : Limits) (k : ℕ) → k ≤ 6 → Sound (tree_notion k) m (tree_at m.depth k))
    → ((m : Limits) (k : ℕ) → k ≤ 6 → Complete (tree_notion k) m (tree_at m.depth k))
    → (1 ≤ b → (k : ℕ) → k ≤ 6 → First (tree_notion k) (tree_run k) (deep l b)) →
    First (tree_notion 0) (tree_run 0) (deep l (suc b))
unary_first l b sound complete first =
    recast_first dotless (tree_notion 0) (deep l (suc b)) (dotless_into (deep l (suc b))) (λ m.
    unless (is_mark mark.DOT) (prefix_run m)) (tree_run 0)
    (λ m us c. let n = one_more m.depth (let d = c.depth in omega arith) in run_is m n.0 us n.1)
    (unless_first prefix_notion (is_mark mark.DOT) (deep l (suc b)) prefix_run
    (prefix_sound l b (λ k le. sound (deep l b) k le))
    (λ m c. let n = one_more m.depth (let d = c.depth in omega arith) in run_complete m n.0 n.1 complete)
    (prefix_first l b (sound (deep l b) 6 (omega arith)) (λ m. complete m 6 (omega arith)) first))
