use Rattle.std.proofs.Common.{◌≡◌, ◌≤◌, ◌<◌, ◌-◌, length, ◌∙◌, arith}
use Rattle.std.specs.Prelude.{nat_le, nat_lt, slice_index}
use Rattle.std.proofs.lemmas.Bool.{and_parts, leb-true, ltb-true}
use Rattle.std.proofs.lemmas.List.FromFn.{length-range_with_len}
use Rattle.vert_base.specs.Ends.{start_of}
use Rattle.machine_core.specs.CoreState.{core_state}
use Rattle.machine_core.proofs.SoundLaws.{steady}
use Rattle.machine_core.proofs.site.CoreSite.row.Goals as goal

pub read-requires : goal.read-requires
read-requires c =
    let self = c.args.self.now in
    let ends = self.ground.part.cuts in
    let m = self.ground.part.at.machine in
    let v = c.args.v.0 in
    let parts = and_parts (nat_le (start_of ends m) v) (nat_lt v (slice_index ends m)) c.requires in
    let low : start_of ends m ≤ v = leb-true (start_of ends m) v parts.0 in
    let high : v < slice_index ends m = ltb-true v (slice_index ends m) parts.1 in
    let start : c.start.result ≡ start_of ends m = c.start.ensures.start in
    let count : length self.rows.rows ≡ slice_index ends m - start_of ends m =
    (steady (core_state self) self.sound).rows
    ∙ length-range_with_len (start_of ends m) (slice_index ends m - start_of ends m) in
    omega (arith, low, high, start, count)
