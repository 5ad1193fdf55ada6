use Rattle.std.proofs.Common.{◌≡◌, ◌<◌, ◌++◌, ◌∙◌, ℕ, List, length, ap, sym, subst, arith}
use Rattle.std.specs.Prelude.{nat_le, nat_lt}
use Rattle.std.specs.List.{All, filter}
use Rattle.std.proofs.lemmas.List.Elements.{All-filter}
use Rattle.std.specs.List.Sorted.{IsNonDecreasingBy}
use Rattle.vert_base.specs.declared.graph.Edge.{Edge}
use Rattle.vert_base.specs.Neighbours.{AreBelow, ins_of, source, turn_of, turned}
use Rattle.plain_run.proofs.GraphLaws.{ins_below, ins_rise, turned_count}
use Rattle.plain_run.proofs.graph.Graph.members_of.Goals as goal

pub split_below-requires : goal.split_below-requires
split_below-requires c =
    let table = c.self.inside.table.now in
    subst (λ (es : List Edge). IsNonDecreasingBy source es) (sym c.ins.ensures.value)
    (ins_rise table.vertices table.list c.args.v)

-- the two pieces are the list as it is turned
turned_parts : (t turn : ℕ) (ins list first rest : List Edge) → t ≡ turn → list ≡ ins →
    first ≡ filter (λ e. nat_le t (source e)) list → rest ≡ filter (λ e. nat_lt (source e) t) list →
    first ++ rest ≡ turned turn ins
turned_parts t turn ins list first rest at is high low =
    ap (λ es. es ++ rest) high ∙ (ap (λ es. filter (λ e. nat_le t (source e)) list ++ es) low
    ∙ (ap (λ u. turned u list) at ∙ ap (turned turn) is))

pub returns-clause-members : goal.returns-clause-members
returns-clause-members c =
    let g = c.self.inside in
    rw (← c.self.view_is)
    (turned_parts c.turn-turn.result (turn_of g.cuts.now c.args.v)
    (ins_of g.table.now.vertices g.table.now.list c.args.v) c.ins.result.now c.split_below.result.1.now
    c.split_below.result.0.now
    c.turn-turn.ensures.value c.ins.ensures.value c.split_below.ensures.others c.split_below.ensures.below)

pub returns-clause-inside : goal.returns-clause-inside
returns-clause-inside c =
    let table = c.self.inside.table.now in
    let P : Edge → Type 0 = λ e. source e < table.vertices in
    let below : AreBelow table.vertices table.list =
    subst (λ (n : ℕ). AreBelow n table.list) c.vertices-vertices.ensures.value c.vertices-vertices.ensures.below in
    let all : All P c.ins.result.now = subst (λ (es : List Edge). All P es) (sym c.ins.ensures.value)
    (ins_below table.vertices table.list c.args.v below) in
    let high : All P c.split_below.result.1.now =
    subst (λ (es : List Edge). All P es) (sym c.split_below.ensures.others)
    (All-filter (λ e. nat_le c.turn-turn.result (source e)) P c.ins.result.now all) in
    let low : All P c.split_below.result.0.now =
    subst (λ (es : List Edge). All P es) (sym c.split_below.ensures.below)
    (All-filter (λ e. nat_lt (source e) c.turn-turn.result) P c.ins.result.now all) in
    rw (← c.self.view_is) (record { first = high; rest = low })

pub returns-clause-few : goal.returns-clause-few
returns-clause-few c =
    let g = c.self.inside in
    let table = g.table.now in
    let are = turned_parts c.turn-turn.result (turn_of g.cuts.now c.args.v)
    (ins_of table.vertices table.list c.args.v) c.ins.result.now c.split_below.result.1.now
    c.split_below.result.0.now
    c.turn-turn.ensures.value c.ins.ensures.value c.split_below.ensures.others c.split_below.ensures.below in
    omega (
      arith,
      ap length are,
      turned_count (turn_of g.cuts.now c.args.v)
          (ins_of table.vertices table.list c.args.v),
      ap length c.ins.ensures.value,
      c.ins.ensures.few,
    )
