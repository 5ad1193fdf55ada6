-- The commands, and the names of each one's positionals, options and flags.
use Rattle.std.specs.Prelude.{List, [], ◌∷◌, Option, Some, None, codes, if◌then◌else◌}
use Rattle.std.specs.Str.{bytes_eq}
use Rattle.symple_words.specs.Texts.{Text}
use Rattle.symple_words.specs.Spelling.{Form}
use Rattle.symple_words.specs.declared.verb.Verb.{Verb}
use Rattle.symple_words.specs.declared.verb.Verb.TheVariants as verb

-- the command that a word names
abbrev pub verb_of : Text → Option Verb
verb_of word = if bytes_eq word (codes "run") then Some verb.Run
    else if bytes_eq word (codes "record") then Some verb.Record
    else if bytes_eq word (codes "replay") then Some verb.Replay
    else if bytes_eq word (codes "resume") then Some verb.Resume
    else if bytes_eq word (codes "show") then Some verb.Show
    else if bytes_eq word (codes "free") then Some verb.Free
    else if bytes_eq word (codes "plan") then Some verb.Plan
    else if bytes_eq word (codes "demo") then Some verb.Demo
    else if bytes_eq word (codes "renew") then Some verb.Renew
    else if bytes_eq word (codes "split") then Some verb.Split
    else if bytes_eq word (codes "worker") then Some verb.Worker
    else None

-- the flags that say how the graph is to be read
abbrev pub graph_flags : List Text
graph_flags = codes "both" ∷ codes "binary" ∷ codes "weighted" ∷ []

-- the flags of a run
abbrev pub run_flags : List Text
run_flags = codes "both" ∷ codes "binary" ∷ codes "weighted"
    ∷ codes "rounds" ∷ codes "reads" ∷ codes "log" ∷ []

abbrev pub form_for : Verb → Form
form_for verb.Run = record {
  positionals = codes "program" ∷ codes "graph" ∷ [];
  options = codes "machines" ∷ codes "vertices" ∷ codes "draws" ∷ codes "image" ∷ [];
  flags = run_flags;
}
form_for verb.Record = record {
  positionals = codes "program" ∷ codes "graph" ∷ codes "schedule" ∷ [];
  options = codes "machines" ∷ codes "vertices" ∷ codes "draws" ∷ codes "seed" ∷ [];
  flags = codes "both" ∷ codes "binary" ∷ codes "weighted"
      ∷ codes "rounds" ∷ codes "reads" ∷ codes "log" ∷ codes "lossy" ∷ [];
}
form_for verb.Replay = record {
  positionals = codes "program" ∷ codes "graph" ∷ codes "schedule" ∷ [];
  options = codes "vertices" ∷ codes "draws" ∷ [];
  flags = run_flags;
}
form_for verb.Resume = record {
  positionals = codes "program" ∷ codes "graph" ∷ codes "image" ∷ [];
  options = codes "machines" ∷ codes "vertices" ∷ codes "draws" ∷ [];
  flags = run_flags;
}
form_for verb.Show = record { positionals = codes "program" ∷ []; options = []; flags = [] }
form_for verb.Free = record { positionals = codes "program" ∷ []; options = []; flags = [] }
form_for verb.Plan = record {
  positionals = codes "graph" ∷ [];
  options = codes "machines" ∷ codes "vertices" ∷ [];
  flags = graph_flags;
}
form_for verb.Demo = record {
  positionals = codes "seed" ∷ [];
  options = codes "machines" ∷ [];
  flags = [];
}
form_for verb.Renew = record {
  positionals = codes "schedule" ∷ codes "target" ∷ [];
  options = [];
  flags = [];
}
form_for verb.Split = record {
  positionals = codes "program" ∷ codes "graph" ∷ codes "prefix" ∷ [];
  options = codes "machines" ∷ codes "vertices" ∷ codes "draws" ∷ [];
  flags = graph_flags;
}
form_for verb.Worker = record {
  positionals = codes "part" ∷ codes "rows" ∷ [];
  options = [];
  flags = [];
}
