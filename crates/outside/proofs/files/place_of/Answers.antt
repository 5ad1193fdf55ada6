use Rattle.std.proofs.Common.{◌≡◌, ◌∙◌, arith, false}
use Rattle.std.specs.Prelude.{string_bytes, bytes_eq}
use Rattle.outside.specs.Files.{files_of}
use Rattle.outside.proofs.FilesLaws.{files_at, next_named, next_others}
use Rattle.outside.proofs.files.place_of.Goals as goal

pub loop-at-preserved : goal.loop-at-preserved
loop-at-preserved c =
    let files = files_of c.args.files.now in
    let at = c.loop-at.at in
    let pair = c.index-files-at.result in
    let here = files_at c.args.files.now at pair c.loop-at-test.true c.index-files-at.is in
    let other : bytes_eq (string_bytes pair.0) c.args.name.now ≡ false = cc in
    record {
      within = omega (arith, c.loop-at-test.true);
      named = next_named files at (record { name = string_bytes pair.0; bytes = pair.1.items }) c.args.name.now here
          other ∙ c.loop-at.invariant.named;
      others = λ bytes. next_others files at (record { name = string_bytes pair.0; bytes = pair.1.items })
          c.args.name.now bytes here other ∙ c.loop-at.invariant.others bytes;
    }
