-- The text of the demonstration is a program, by computation.
use Rattle.std.proofs.Common.{◌≡◌, ℕ, Bool, true, false, List, Option, Some, None, Result, Ok, Err, length, refl}
use Rattle.std.specs.Prelude.{nat_lt}
use Rattle.std.proofs.lemmas.Bool.{false≢true}
use Rattle.vert_lex.specs.declared.token.LexFault.{LexFault}
use Rattle.vert_lex.specs.Places.{marks, reserved_words}
use Rattle.vert_lex.specs.Text.{Placed, origin, tokens_of}
use Rattle.vert_lex.specs.Tokens.{kind_of}
use Rattle.vert_grammar.specs.Reading.{Stop, single, up_to, many_from, many, named_at, other_at, draw_at, prefixed, unary, turn, chain, choice, climb, tree_at, op_at, assign_at, set_active_at, emit_at, break_at, choose, statement_at, block_at, type_at, declaration_at, slot_at, total_at, dense_at, sparse_at, update_at, start_at, stop_at, header_at, names_at, blocks_at, program_at, all_of, reading}
use Rattle.vert_grammar.specs.Signs.{operator_of, layer_at, builtin_of}
use Rattle.vert_tree.specs.Trees.{ProgramTree}
use Rattle.vert_types.specs.declared.fault.Finding.{Finding}
use Rattle.vert_types.specs.Typing.{first_fault}
use Rattle.demo_program.specs.DemoText.{demo_text}
use Rattle.program_laws.proofs.Readings.{reads_soundly}
use Rattle.program_reader.specs.Laws.{IsAccepted}
use Rattle.demo_program.proofs.FrontTokens.{fronts_are, fronts_at}

abbrev faultless : Option Finding → Bool
faultless None = true
faultless (Some finding) = false

-- whether what was read is a program that is typed
abbrev pub is_typed_reading : Result (ProgramTree × List Placed) Stop → Bool
is_typed_reading (Ok (tree, rest)) = faultless (first_fault tree)
is_typed_reading (Err stop) = false

abbrev pub is_program : Result (List Placed) LexFault → Bool
is_program (Ok placed) = is_typed_reading (reading placed)
is_program (Err fault) = false

pub demo_is_short : nat_lt 65536 (length demo_text) ≡ false
unfolding demo_text
demo_is_short = refl

pub demo_is_program : is_program (fronts_at false 0 origin demo_text) ≡ true
unfolding demo_text kind_of reserved_words marks single up_to many_from many named_at other_at draw_at prefixed unary
    turn chain choice climb tree_at op_at assign_at set_active_at emit_at break_at choose statement_at block_at type_at
    declaration_at slot_at total_at dense_at sparse_at update_at start_at stop_at header_at names_at blocks_at
    program_at all_of operator_of layer_at builtin_of
demo_is_program = refl

-- ---- such a text is accepted
no_finding : (o : Option Finding) → faultless o ≡ true → o ≡ None
no_finding None is = refl
no_finding (Some finding) is = absurd (false≢true is)

read_typed : (r : Result (ProgramTree × List Placed) Stop) → is_typed_reading r ≡ true →
    (tree : ProgramTree) × (rest : List Placed) × (r ≡ Ok (tree, rest)) × (first_fault tree ≡ None)
read_typed (Ok (tree, rest)) is = (tree, rest, refl, no_finding (first_fault tree) is)
read_typed (Err stop) is = absurd (false≢true is)

tokens_accepted : (text : List ℕ) (r : Result (List Placed) LexFault) → tokens_of text ≡ r → is_program r ≡ true →
    IsAccepted text
tokens_accepted text (Ok placed) tokens is =
    let read = read_typed (reading placed) is in (
      read.0,
      record { placed = placed; tokens = tokens; reading = (reads_soundly placed read.0 read.1 read.2).0 },
      read.3,
    )
tokens_accepted text (Err fault) tokens is = absurd (false≢true is)

pub demo_is_accepted : IsAccepted demo_text
demo_is_accepted = tokens_accepted demo_text (fronts_at false 0 origin demo_text) (fronts_are demo_text demo_is_short)
    demo_is_program
