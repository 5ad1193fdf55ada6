-- What the three readers answer, as what a text says or as its refusal.
use Rattle.std.proofs.Common.{◌≡◌, ℕ, true, List, [], map, Ok, Err, refl, sym, ap, subst, ◌∙◌, inl, inr}
use Rattle.std.specs.Str.{bytes_eq}
use Rattle.std.specs.String.{string_bytes}
use Rattle.indexmap.specs.IndexSet.{insert_all}
use Rattle.vert_base.specs.declared.text.Span.{Span}
use Rattle.vert_lex.specs.Text.{Placed, origin, through, tokens_of}
use Rattle.vert_tree.specs.declared.program.Program.{Program}
use Rattle.vert_tree.specs.Typed.{is_typed}
use Rattle.vert_tree.specs.Views.{view_program}
use Rattle.vert_grammar.specs.Faults as faults
use Rattle.vert_grammar.specs.Faults.{IsReading, Why}
use Rattle.vert_grammar.specs.Reading.{reading}
use Rattle.vert_parse.specs.declared.fault.ParseFault.{ParseFault}
use Rattle.vert_parse.specs.declared.fault.ParseFault.TheVariants.{Unexpected, TooDeep, TooMany, Want}
use Rattle.vert_parse.specs.Names.{program_names}
use Rattle.vert_parse.specs.Parsing.{IsNamed, IsStopped, ParsesAs}
use Rattle.vert_types.specs.declared.fault.TypeFault.{TypeFault}
use Rattle.vert_types.specs.declared.fault.TypeFault.TheVariants as types
use Rattle.vert_types.specs.Filled.{IsTyping}
use Rattle.vert_types.specs.Parsed.{IsParsed}
use Rattle.vert_types.specs.Typing.{IsFirst, first_fault}
use Rattle.program_laws.proofs.Readings.{reads_soundly, refuses_soundly}
use Rattle.program_reader.specs.declared.refusal.Stage.TheVariants.{Grammar}
use Rattle.program_reader.specs.Accepted.{IsNoProgram, IsText, Says, number_of}
use Rattle.program_reader.specs.Answers.{ReadsProgram}
use Rattle.program_reader.specs.Faults.{parse_fault, type_fault}
use Rattle.program_reader.proofs.ParsedLaws.{is_parsed}

module _ (text : List ℕ) (placed : List Placed) (lexed : tokens_of text ≡ Ok placed) where
  stops : (why : Why) (at : Span) → IsStopped (reading placed) (through origin text) why at →
      IsNoProgram text (record { stage = Grammar; number = number_of why; span = at })
  stops why at h = record {
    placed = placed;
    tokens = lexed;
    why = why;
    first = record {
      rest = h.rest;
      place = h.place;
      refused = refuses_soundly placed (record { why = why; rest = h.rest }) h.stopped;
    };
    refused = refl;
  }

  -- where parsing stops the text is no program
  pub no_program : (fault : ParseFault) → ParsesAs (reading placed) (through origin text) (Err fault) →
      ReadsProgram text (Err (parse_fault fault))
  no_program (Unexpected at) h = inr (inl (stops faults.Unexpected at h))
  no_program (TooDeep at) h = inr (inl (stops faults.TooDeep at h))
  no_program (TooMany at) h = inr (inl (stops faults.TooMany at h))
  no_program Want h = tt

  module _ (program : Program) (gives : reading placed ≡ Ok (view_program program, [])) (named : IsNamed program) where
    is_reading : IsReading placed (view_program program)
    is_reading = (reads_soundly placed (view_program program) [] gives).0

    -- what is parsed may be checked
    pub may_check : IsParsed program
    may_check = is_parsed placed program is_reading named

    is_text : IsText text (view_program program)
    is_text = record { placed = placed; tokens = lexed; reading = is_reading }

    -- where the checks refuse it the text is untyped
    pub untyped : (fault : TypeFault) → IsFirst (view_program program) fault →
        ReadsProgram text (Err (type_fault fault))
    untyped (types.Fault code s) h = inr (inr
        (record { tree = view_program program; is = is_text; first = h; refused = refl }))
    untyped types.Want h = tt

    -- and where they accept it the text says it
    pub says : (after : Program) → IsTyping program after → is_typed after ≡ true → Says text after
    says after h typed = record {
      tree = subst (IsText text) (sym h.same) is_text;
      accepted = ap first_fault h.same ∙ h.accepted;
      typed = typed;
      filled = h.filled;
      names = ap (λ v. map string_bytes v.items) h.names ∙ named.texts
          ∙ ap (λ t. insert_all bytes_eq [] (program_names t)) (sym h.same);
    }
