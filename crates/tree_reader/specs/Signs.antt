-- Numbered tokens as the definitions see them, and what a reader of them answers.
use Rattle.std.specs.Prelude.{◌≡◌, List, map, Result, Ok, Err}
use Rattle.std.specs.declared.alloc.Global.{Global}
use Rattle.std.specs.declared.string.String.{String}
use Rattle.vert_lex.specs.Text.{Placed}
use Rattle.vert_lex.specs.Tokens.{Kind, Reserved, Mark, Number, Name}
use Rattle.vert_tree.specs.Views.{text_of}
use Rattle.vert_grammar.specs.Faults as faults
use Rattle.vert_grammar.specs.Grammar as grammar
use Rattle.vert_grammar.specs.Reading.{Stop}
use Rattle.tree_reader.specs.declared.fault.Halt.{Halt}
use Rattle.tree_reader.specs.declared.fault.Halt.TheVariants as halts
use Rattle.tree_reader.specs.declared.fault.Why.{Why}
use Rattle.tree_reader.specs.declared.fault.Why.TheVariants as whys
use Rattle.tree_reader.specs.declared.rights.Rights.{Rights}
use Rattle.tree_reader.specs.declared.sign.Sign.{Sign}
use Rattle.tree_reader.specs.declared.sign.SignKind.{SignKind}
use Rattle.tree_reader.specs.declared.sign.SignKind.TheVariants as kinds

abbrev pub plain_kind : List (String Global) → SignKind → Kind
plain_kind names (kinds.Reserved place) = Reserved place
plain_kind names (kinds.Mark place) = Mark place
plain_kind names (kinds.Number number) = Number number.value
plain_kind names (kinds.Name number) = Name (text_of names number)

abbrev pub plain_sign : List (String Global) → Sign → Placed
plain_sign names sign = record { span = sign.span; kind = plain_kind names sign.kind }

abbrev pub plain : List (String Global) → List Sign → List Placed
plain names signs = map (plain_sign names) signs

abbrev pub plain_why : Why → faults.Why
plain_why whys.Unexpected = faults.Unexpected
plain_why whys.TooDeep = faults.TooDeep
plain_why whys.TooMany = faults.TooMany

-- reading stops where a reader says so
abbrev pub Fails : {B : Type 0} → List (String Global) → Halt → Result B Stop → Type 0
Fails names halts.Memory read = Unit {0}
Fails names (halts.Fault why rest) read = read ≡ Err (record { why = plain_why why; rest = plain names rest.now })

-- What a reader returned, seen by a view, is what reading gives, unless memory ran out.
abbrev pub Gives : {A B : Type 0} → List (String Global) → (A → B) → Result A Halt → Result B Stop → Type 0
Gives names f (Ok x) read = read ≡ Ok (f x)
Gives names f (Err e) read = Fails names e read

abbrev pub plain_rights : Rights → grammar.Rights
plain_rights r = record { assigns = r.assigns; activates = r.activates; emits = r.emits; breaks = r.breaks }
