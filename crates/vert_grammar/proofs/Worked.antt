-- Worked programs and worked faults, by computation. Each token stands at its number.
use Rattle.std.specs.Prelude.{◌≡◌, ℕ, pos, suc, true, List, [], ◌∷◌, ◌++◌, replicate, Option, None, Some, Result, Ok, Err, codes, flat_map}
use Rattle.std.proofs.Common.{refl}
use Rattle.vert_base.specs.declared.text.Span.{Span}
use Rattle.vert_base.specs.declared.value.Combine.TheVariants as combine
use Rattle.vert_base.specs.declared.value.Mode.TheVariants as modes
use Rattle.vert_base.specs.declared.value.ValueType.TheVariants as types
use Rattle.vert_lex.specs.declared.marks.TheConstants as mark
use Rattle.vert_lex.specs.declared.words.TheConstants as word
use Rattle.vert_lex.specs.Text.{Placed}
use Rattle.vert_lex.specs.Tokens.{Kind, Reserved, Mark, Number, Name}
use Rattle.vert_tree.specs.declared.expression.BinOp.TheVariants as operators
use Rattle.vert_tree.specs.declared.statement.AssignOp.TheVariants as assign
use Rattle.vert_tree.specs.Trees.{Named, Literal, Truth, Variable, Value, OtherField, Draw, Pair, Assign, SetActive, Emit, End, More, ProgramTree}
use Rattle.vert_grammar.specs.Faults.{Why, Unexpected, TooDeep, TooMany}
use Rattle.vert_grammar.specs.Reading.{Stop, single, up_to, many_from, many, named_at, other_at, draw_at, prefixed, unary, turn, chain, choice, climb, tree_at, op_at, assign_at, set_active_at, emit_at, break_at, choose, statement_at, block_at, type_at, declaration_at, slot_at, total_at, dense_at, sparse_at, update_at, start_at, stop_at, header_at, names_at, blocks_at, program_at, all_of, reading}
use Rattle.vert_grammar.specs.Signs.{operator_of, layer_at, builtin_of, total_text}
use Rattle.vert_grammar.specs.Spelling.{kinds, spelled_program}

abbrev at : ℕ → Span
at n = record { at = n; line = 1; column = 0 }

abbrev from : ℕ → List Kind → List Placed
from n [] = []
from n (k ∷ ks) = record { span = at n; kind = k } ∷ from (suc n) ks

abbrev semicolon : Kind
semicolon = Mark mark.SEMICOLON

-- vertex VERSION; mode dense; limit LIMIT;
abbrev header : ℕ → ℕ → List Kind
header version limit =
    Reserved word.VERTEX ∷ Number version ∷ semicolon ∷ Reserved word.MODE ∷ Reserved word.DENSE ∷ semicolon
    ∷ Reserved word.LIMIT ∷ Number limit ∷ semicolon ∷ []

-- field NAME: int = VALUE;
abbrev field : List ℕ → List Kind → List Kind
field name value = Reserved word.FIELD ∷ Name name ∷ Mark mark.COLON ∷ Reserved word.INT ∷ Mark mark.ASSIGN
    ∷ (value ++ semicolon ∷ [])

-- start true; dense when true { for u { BODY } }
abbrev dense : List Kind → List Kind
dense body =
    Reserved word.START ∷ Reserved word.TRUE ∷ semicolon ∷ Reserved word.DENSE ∷ Reserved word.WHEN
    ∷ Reserved word.TRUE ∷ Mark mark.LEFT_BRACE
    ∷ Reserved word.FOR ∷ Reserved word.U ∷ Mark mark.LEFT_BRACE
    ∷ (body ++ Mark mark.RIGHT_BRACE ∷ Mark mark.RIGHT_BRACE ∷ [])

abbrev update : List Kind → List Kind
update body = Reserved word.UPDATE ∷ Mark mark.LEFT_BRACE ∷ (body ++ Mark mark.RIGHT_BRACE ∷ [])

-- ---- dice
abbrev dice : List Kind
dice = header 1 0 ++ (field (codes "d") (Reserved word.DRAW ∷ Mark mark.LEFT_PARENTHESIS ∷ Number 54
    ∷ Mark mark.RIGHT_PARENTHESIS ∷ []) ++ (dense [] ++ update []))

abbrev dice_tree : ProgramTree
dice_tree = record {
  version = 1;
  mode = modes.Dense;
  mode_at = at 4;
  limit = 0;
  limit_at = at 7;
  fields = record {
    name = record { span = at 10; text = codes "d" };
    kind = types.Int;
    value = Draw (at 14) (at 16) 54;
  } ∷ [];
  slots = [];
  totals = [];
  start = Truth (at 20) true;
  dense = Some (record { test = Truth (at 24) true; lets = []; body = End; tail = End });
  sparse = None;
  update = End;
  stop = None;
}

dice_is_read : reading (from 0 dice) ≡ Ok (dice_tree, [])
unfolding single up_to many_from many named_at other_at draw_at prefixed unary turn chain choice climb tree_at op_at
    assign_at set_active_at emit_at break_at choose statement_at block_at type_at declaration_at slot_at total_at
    dense_at sparse_at update_at start_at stop_at header_at names_at blocks_at program_at all_of operator_of layer_at
    builtin_of
dice_is_read = refl

dice_is_spelled : spelled_program dice_tree ≡ dice
dice_is_spelled = refl

-- ---- halve
-- slot NAME: sum; total NAME: sum = c;
abbrev halve_names : List Kind
halve_names =
    field (codes "c") (Number 1 ∷ [])
    ++ (Reserved word.SLOT ∷ Name (codes "a") ∷ Mark mark.COLON ∷ Reserved word.SUM ∷ semicolon
    ∷ Name (codes "total") ∷ Name (codes "t") ∷ Mark mark.COLON ∷ Reserved word.SUM ∷ Mark mark.ASSIGN
    ∷ Name (codes "c") ∷ semicolon ∷ [])

abbrev halve_blocks : List Kind
halve_blocks =
    dense (Reserved word.EMIT ∷ Name (codes "a") ∷ Reserved word.U ∷ Mark mark.DOT ∷ Name (codes "c") ∷ semicolon ∷ [])
    ++ update (Name (codes "c") ∷ Mark mark.ASSIGN ∷ Name (codes "a") ∷ Mark mark.DOT ∷ Reserved word.VALUE ∷ semicolon
    ∷ Reserved word.ACTIVE ∷ Mark mark.ASSIGN ∷ Reserved word.TRUE ∷ semicolon ∷ [])

abbrev halve_stop : List Kind
halve_stop = Name (codes "stop") ∷ Name (codes "t") ∷ Mark mark.LESS ∷ Number 2 ∷ semicolon ∷ []

abbrev halve : List Kind
halve = header 2 10 ++ (halve_names ++ (halve_blocks ++ halve_stop))

abbrev named : ℕ → List ℕ → Named
named n text = record { span = at n; text = text }

abbrev halve_tree : ProgramTree
halve_tree = record {
  version = 2;
  mode = modes.Dense;
  mode_at = at 4;
  limit = 10;
  limit_at = at 7;
  fields = record { name = named 10 (codes "c"); kind = types.Int; value = Literal (at 14) (pos 1) } ∷ [];
  slots = record { name = named 17 (codes "a"); op = combine.Sum } ∷ [];
  totals = record { name = named 22 (codes "t"); op = combine.Sum; value = Variable (at 26) (named 26 (codes "c")) }
      ∷ [];
  start = Truth (at 29) true;
  dense = Some (record {
    test = Truth (at 33) true;
    lets = [];
    body = More (Emit (at 38) (named 39 (codes "a")) (OtherField (at 40) (named 42 (codes "c")))) End;
    tail = End;
  });
  sparse = None;
  update = More (Assign (named 48 (codes "c")) assign.Set (Value (at 50) (named 50 (codes "a"))))
      (More (SetActive (at 54) (Truth (at 56) true)) End);
  stop = Some (Pair (at 60) operators.Lt (Variable (at 60) (named 60 (codes "t"))) (Literal (at 62) (pos 2)));
}

halve_is_read : reading (from 0 halve) ≡ Ok (halve_tree, [])
unfolding single up_to many_from many named_at other_at draw_at prefixed unary turn chain choice climb tree_at op_at
    assign_at set_active_at emit_at break_at choose statement_at block_at type_at declaration_at slot_at total_at
    dense_at sparse_at update_at start_at stop_at header_at names_at blocks_at program_at all_of operator_of layer_at
    builtin_of
halve_is_read = refl

halve_is_spelled : spelled_program halve_tree ≡ halve
halve_is_spelled = refl

-- ---- faults
-- why a text is refused, and the tokens from the refused one on
abbrev fault_of : {A : Type 0} → Result A Stop → Option (Why × List Kind)
fault_of (Ok x) = None
fault_of (Err s) = Some (s.why, kinds s.rest)

abbrev refused : List Kind → Option (Why × List Kind)
refused text = fault_of (reading (from 0 text))

-- a program whose only field has this value and what follows it
abbrev with_value : List Kind → List Kind
with_value value = header 1 0 ++ (Reserved word.FIELD ∷ Name (codes "d") ∷ Mark mark.COLON ∷ Reserved word.INT
    ∷ Mark mark.ASSIGN ∷ value)

-- so many slots, and so many totals
abbrev slots : ℕ → List Kind
slots n = flat_map (λ name. Reserved word.SLOT ∷ Name name ∷ Mark mark.COLON ∷ Reserved word.SUM ∷ semicolon ∷ [])
    (replicate n (codes "a"))

abbrev totals : ℕ → List Kind
totals n = flat_map (λ name. Name total_text ∷ Name name ∷ Mark mark.COLON ∷ Reserved word.SUM ∷ Mark mark.ASSIGN
    ∷ Number 1 ∷ semicolon ∷ []) (replicate n (codes "t"))

-- KEYWORD a: int = 1; so many times
abbrev declared : ℕ → ℕ → List Kind
declared keyword n = flat_map (λ name. Reserved keyword ∷ Name name ∷ Mark mark.COLON ∷ Reserved word.INT
    ∷ Mark mark.ASSIGN ∷ Number 1 ∷ semicolon ∷ []) (replicate n (codes "a"))

-- start true; BLOCK when true { and what follows
abbrev in_block : ℕ → List Kind → List Kind
in_block keyword inner =
    header 1 0 ++ (Reserved word.START ∷ Reserved word.TRUE ∷ semicolon ∷ Reserved keyword ∷ Reserved word.WHEN
    ∷ Reserved word.TRUE ∷ Mark mark.LEFT_BRACE ∷ inner)

-- start true; update { if true { if true { .. so many times
abbrev nested : ℕ → List Kind
nested n =
    header 1 0
    ++ (Reserved word.START ∷ Reserved word.TRUE ∷ semicolon ∷ Reserved word.UPDATE ∷ Mark mark.LEFT_BRACE
    ∷ flat_map (λ k. k ∷ Reserved word.TRUE ∷ Mark mark.LEFT_BRACE ∷ []) (replicate n (Reserved word.IF)))

faults_stand :
    -- version 3 is none: at the number
    (refused (header 3 0) ≡ Some (
      Unexpected,
      Number 3 ∷ semicolon ∷ Reserved word.MODE ∷ Reserved word.DENSE
          ∷ semicolon ∷ Reserved word.LIMIT ∷ Number 0 ∷ semicolon ∷ [],
    ))
    -- version 1 has no stop: at the name
    × (refused (dice ++ halve_stop) ≡ Some (Unexpected, halve_stop))
    -- nor a total
    × (refused (header 1 0 ++ halve_names)
    ≡ Some (
      Unexpected,
      Name total_text ∷ Name (codes "t") ∷ Mark mark.COLON ∷ Reserved word.SUM
          ∷ Mark mark.ASSIGN ∷ Name (codes "c") ∷ semicolon ∷ [],
    ))
    -- a text that ends too early: at its end
    × (refused (header 1 0 ++ dense []) ≡ Some (Unexpected, []))
    -- comparisons don't chain: at the second one
    × (refused (with_value (Number 1 ∷ Mark mark.LESS ∷ Number 2 ∷ Mark mark.EQUAL ∷ Number 3 ∷ []))
    ≡ Some (Unexpected, Mark mark.EQUAL ∷ Number 3 ∷ []))
    -- the 64th parenthesis, one in the other, and the 64th sign of a chain
    × (refused (with_value (replicate 64 (Mark mark.LEFT_PARENTHESIS)))
    ≡ Some (TooDeep, Mark mark.LEFT_PARENTHESIS ∷ []))
    × (refused (with_value (flat_map (λ k. Number 1 ∷ k ∷ []) (replicate 64 (Mark mark.PLUS))))
    ≡ Some (TooDeep, Mark mark.PLUS ∷ []))
    -- the 17th field, at its keyword
    × (refused (header 1 0 ++ (flat_map (λ n. field n (Number 1 ∷ [])) (replicate 16 (codes "d"))
    ++ Reserved word.FIELD ∷ [])) ≡ Some (TooMany, Reserved word.FIELD ∷ []))
    -- the 64th `if`, and the 64th `min`
    × (refused (nested 64) ≡ Some (TooDeep, Reserved word.IF ∷ Reserved word.TRUE ∷ Mark mark.LEFT_BRACE ∷ []))
    × (refused (nested 63) ≡ Some (Unexpected, []))
    × (refused (with_value (flat_map (λ k. k ∷ Mark mark.LEFT_PARENTHESIS ∷ []) (replicate 64 (Reserved word.MIN))))
    ≡ Some (TooDeep, Reserved word.MIN ∷ Mark mark.LEFT_PARENTHESIS ∷ []))
    -- the ninth slot, let and send and the fifth total
    × (refused (header 1 0 ++ (slots 8 ++ Reserved word.SLOT ∷ [])) ≡ Some (TooMany, Reserved word.SLOT ∷ []))
    × (refused (in_block word.DENSE (declared word.LET 8 ++ Reserved word.LET ∷ []))
    ≡ Some (TooMany, Reserved word.LET ∷ []))
    × (refused (in_block word.SPARSE (declared word.SEND 8 ++ Reserved word.SEND ∷ []))
    ≡ Some (TooMany, Reserved word.SEND ∷ []))
    × (refused (header 2 0 ++ (totals 4 ++ Name total_text ∷ [])) ≡ Some (TooMany, Name total_text ∷ []))
    -- a dot behind a number, and what doesn't stand in a sparse block
    × (refused (with_value (Number 1 ∷ Mark mark.DOT ∷ Reserved word.GOT ∷ []))
    ≡ Some (Unexpected, Mark mark.DOT ∷ Reserved word.GOT ∷ []))
    × (refused (in_block word.SPARSE (Reserved word.BREAK ∷ semicolon ∷ []))
    ≡ Some (Unexpected, Reserved word.BREAK ∷ semicolon ∷ []))
    × (refused (in_block word.SPARSE (Name (codes "a") ∷ Mark mark.ASSIGN ∷ []))
    ≡ Some (Unexpected, Name (codes "a") ∷ Mark mark.ASSIGN ∷ []))
unfolding single up_to many_from many named_at other_at draw_at prefixed unary turn chain choice climb tree_at op_at
    assign_at set_active_at emit_at break_at choose statement_at block_at type_at declaration_at slot_at total_at
    dense_at sparse_at update_at start_at stop_at header_at names_at blocks_at program_at all_of operator_of layer_at
    builtin_of
faults_stand = (
  refl,
  refl,
  refl,
  refl,
  refl,
  refl,
  refl,
  refl,
  refl,
  refl,
  refl,
  refl,
  refl,
  refl,
  refl,
  refl,
  refl,
  refl,
)
