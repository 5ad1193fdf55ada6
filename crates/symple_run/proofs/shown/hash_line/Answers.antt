use Rattle.std.proofs.Common.{◌≡◌, ◌++◌, List, ℕ, ap, subst, ◌∙◌}
use Rattle.std.proofs.lemmas.Option.{same_Some}
use Rattle.sha2.specs.Hashers.{Holds256}
use Rattle.symple_run.specs.Played.{line_of}
use Rattle.symple_run.proofs.shown.hash_line.Goals as goal

pub returns-clause-hashed : goal.returns-clause-hashed
returns-clause-hashed g c =
    let line = line_of g.S.Site.work c.args.cluster.now.world c.args.v.0 in
    let held : c.write_line.new.out.bytes ≡ line =
    same_Some c.write_line.new.out.bytes (c.args.text.now.bytes ++ line) c.in-Ok.ensures.whole
    ∙ ap (λ (bytes : List ℕ). bytes ++ line) c.requires.empty in
    λ m holds. subst (λ (bytes : List ℕ). Holds256 c.hash_text.new.hasher (m ++ bytes)) held
    (c.hash_text.ensures.hashed m holds)
