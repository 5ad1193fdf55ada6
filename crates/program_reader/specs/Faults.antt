-- The faults of the three readers as faults of a text.
use Rattle.program_reader.specs.declared.refusal.ProgramFault.{ProgramFault}
use Rattle.program_reader.specs.declared.refusal.ProgramFault.TheVariants.{Refused, Want}
use Rattle.program_reader.specs.declared.refusal.Stage.TheVariants.{Tokens, Grammar, Typing}
use Rattle.vert_lex.specs.declared.token.LexFault.{LexFault}
use Rattle.vert_lex.specs.declared.token.LexFault.TheVariants as lex
use Rattle.vert_lex.specs.Text.{origin}
use Rattle.vert_parse.specs.declared.fault.ParseFault.{ParseFault}
use Rattle.vert_parse.specs.declared.fault.ParseFault.TheVariants as parse
use Rattle.vert_types.specs.declared.fault.TypeFault.{TypeFault}
use Rattle.vert_types.specs.declared.fault.TypeFault.TheVariants as types

abbrev pub lex_fault : LexFault → ProgramFault
lex_fault (lex.BadByte span) = Refused (record { stage = Tokens; number = 1; span = span })
lex_fault (lex.BadNumber span) = Refused (record { stage = Tokens; number = 2; span = span })
lex_fault lex.TooLong = Refused (record { stage = Tokens; number = 3; span = origin })
lex_fault lex.Want = Want

abbrev pub parse_fault : ParseFault → ProgramFault
parse_fault (parse.Unexpected span) = Refused (record { stage = Grammar; number = 1; span = span })
parse_fault (parse.TooDeep span) = Refused (record { stage = Grammar; number = 2; span = span })
parse_fault (parse.TooMany span) = Refused (record { stage = Grammar; number = 3; span = span })
parse_fault parse.Want = Want

abbrev pub type_fault : TypeFault → ProgramFault
type_fault (types.Fault code span) = Refused (record { stage = Typing; number = code; span = span })
type_fault types.Want = Want
