use Rattle.std.proofs.Common.{◌≡◌, map, drop}
use Rattle.symple_words.specs.Texts.{has}
use Rattle.symple_words.proofs.text.has.Given as goal

abbrev pub invariant-loop-other : goal.invariant-loop-other
invariant-loop-other l = has l.name (map (λ other. other.now) (drop l.other-index l.names))
    ≡ has l.name (map (λ other. other.now) l.names)
