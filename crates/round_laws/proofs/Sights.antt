-- What a machine sees of the source's round.
use Rattle.std.proofs.Common.{◌≡◌, ◌<◌, ◌≤◌, ◌-◌, ℕ, Bool, true, false, List, [], ◌∷◌, length, map, refl, sym, ap, subst, ◌∙◌, arith}
use Rattle.std.specs.Prelude.{◌==◌, ◌&&◌, ◌||◌, if◌then◌else◌, not, slice_index}
use Rattle.std.specs.List.{AllByRecursion, list_any}
use Rattle.std.proofs.lemmas.Bool.{eq-eqb, eqb-true, ne_eqb}
use Rattle.std.proofs.lemmas.List.{length-map}
use Rattle.std.proofs.lemmas.List.FromFn.{get_or-map-range_with_len}
use Rattle.vert_base.specs.declared.graph.Edge.{Edge}
use Rattle.vert_base.specs.declared.value.Row.{Row}
use Rattle.vert_base.specs.Neighbours.{ins_of, source}
use Rattle.vert_eval.specs.Rounds.{Scene, empty_row, row_at}
use Rattle.chunk_split.specs.Chunks.{AreEnds}
use Rattle.circulant_plan.specs.Names.{refresh_name}
use Rattle.circulant_plan.specs.Ring.{lies_in, members_with}
use Rattle.vert_base.specs.Ends.{start_of}
use Rattle.graph_table.proofs.FilterLaws.{all_map, all_passes, all_weaker, map-map}
use Rattle.body_shape.specs.Refresh.{HasFields, PlainRow, plain_row, rows_read}
use Rattle.body_shape.proofs.RefreshLaws.{refresh_back}
use Rattle.symple_face.specs.CoreSight.{beside, degree_among, degree_of, field_count, held_body, known_totals, mirror_row, mirrors, own_row, own_sight, sight_at, told_row, told_rows}
use Rattle.symple_face.specs.Parts.{PlainPart, chunk_vertices, degree_in, refresh_list}
use Rattle.symple_face.specs.PartsOf.{known_of, part_of}
use Rattle.symple_face.specs.Sight.{Sight}
use Rattle.symple_face.specs.State.{State}
use Rattle.symple_face.proofs.ChunkLaws.{lies_high, lies_low, lies_within}
use Rattle.symple_face.proofs.ListLaws.{other_list}
use Rattle.round_laws.specs.Scans.{Sees, SeesLoop}
use Rattle.round_laws.specs.Seen.{SeesScene, SeesVertex}
use Rattle.round_laws.specs.Sights.{IsTold, OwnAreSeen, OwnScansAreSeen, StandsIn, ToldScansAreSeen}
use Rattle.round_laws.specs.Vertices.{are_some, knows, members_at}
use Rattle.round_laws.proofs.Chunks.{none_has_two}
use Rattle.round_laws.proofs.Lists.{any_kept, any_range}
use Rattle.round_laws.proofs.Vertices.{own_law, refreshed_law, worked_law}

-- ---- lists side by side
module _ {X : Type 0} (u v : ℕ) (x rest : X) (f : ℕ → X) (more : Bool) where
  by_place : (b : Bool) → (u == v) ≡ b → x ≡ f u → (more ≡ true → rest ≡ f v) → (b || more) ≡ true →
      (if b then x else rest) ≡ f v
  by_place true is here later some = here ∙ ap f (eqb-true u v is)
  by_place false is here later some = later some

-- the degrees of a vertex among those of some vertices
pub degree_known : (ins outs : List Edge) (us : List ℕ) (v : ℕ) → list_any (λ u. u == v) us ≡ true →
    degree_among (map (degree_in ins outs) us) v ≡ degree_in ins outs v
degree_known ins outs [] v some = cc
degree_known ins outs (u ∷ us) v some =
    by_place u v (degree_in ins outs u) (degree_among (map (degree_in ins outs) us) v) (degree_in ins outs)
    (list_any (λ u. u == v) us) (u == v) refl refl (degree_known ins outs us v) some

-- what stands beside a vertex of a list
pub beside_is : {X : Type 0} (d : X) (f : ℕ → X) (us : List ℕ) (v : ℕ) → list_any (λ u. u == v) us ≡ true →
    beside d v us (map f us) ≡ f v
beside_is d f [] v some = cc
beside_is d f (u ∷ us) v some =
    by_place u v (f u) (beside d v us (map f us)) f (list_any (λ u. u == v) us) (u == v) refl refl
    (beside_is d f us v) some

-- the row of an own vertex among those of the chunk
pub row_of_own : (rows : List Row) (ends : List ℕ) (m v : ℕ) → lies_in ends m v ≡ true →
    row_at (map (row_at rows) (chunk_vertices ends m)) (v - start_of ends m) ≡ row_at rows v
row_of_own rows ends m v lies =
    let a : ℕ = start_of ends m in
    let low : a ≤ v = lies_low ends m v lies in
    let high : v < slice_index ends m = lies_high ends m v lies in
    get_or-map-range_with_len (row_at rows) a (slice_index ends m - a) (v - a) v empty_row (omega arith) (omega arith)

module _ (most m : ℕ) (state : State) (sc : Scene) (are : AreEnds most sc.graph.ends)
    (stands : StandsIn m state sc) where
  abbrev ends : List ℕ
  ends = sc.graph.ends

  abbrev edges : List Edge
  edges = sc.graph.edges

  abbrev part : PlainPart
  part = part_of ends sc.draws edges m

  abbrev s : State
  s = record state { part = part }

  same : state ≡ s
  same = λ i. record state { part = stands.part i }

  round_seen : SeesScene (own_sight s sc.round) sc
  round_seen = record {
    n = sym stands.sized;
    round = refl;
    draws = refl;
    totals = ap known_totals (sym same)
        ∙ stands.totals;
  }

  -- ---- degrees and rows
  degrees_are : (v : ℕ) → knows ends edges m v ≡ true → degree_of part v ≡ degree_in edges edges v
  degrees_are v known = degree_known edges edges (known_of ends edges m) v known

  own_row_is : (v : ℕ) → lies_in ends m v ≡ true → own_row s v ≡ row_at sc.rows v
  own_row_is v lies =
      ap (λ rows. row_at rows (v - start_of ends m)) stands.rows ∙ row_of_own sc.rows ends m v lies

  vertex_by : (g : Sight) (v : ℕ) → g.row v ≡ row_at sc.rows v → g.ins v ≡ (degree_of part v).ins →
      g.outs v ≡ (degree_of part v).outs → knows ends edges m v ≡ true → SeesVertex g sc v
  vertex_by g v row ins outs known = record {
    row = row;
    ins = ins ∙ ap (λ x. x.ins) (degrees_are v known);
    outs = outs ∙ ap (λ x. x.outs) (degrees_are v known);
  }

  own_seen : (v : ℕ) → lies_in ends m v ≡ true → SeesVertex (own_sight s sc.round) sc v
  own_seen v lies =
      vertex_by (own_sight s sc.round) v (own_row_is v lies) refl refl
      (own_law most ends edges m v are stands.machine lies)

  -- ---- a scan of chunk d
  module _ (d : ℕ) where
    abbrev g : Sight
    g = sight_at s sc.round d

    -- which row of a vertex is seen
    row_by : (b c : Bool) (v : ℕ) → (d == m) ≡ b → lies_in ends d v ≡ c →
        g.row v ≡ (if not b && c then mirror_row s sc.round d v else own_row s v)
    row_by b c v is lies =
        ap (λ x. if not x && lies_in ends d v then mirror_row s sc.round d v else own_row s v) is
        ∙ ap (λ x. if not b && x then mirror_row s sc.round d v else own_row s v) lies

    -- the sources of members that lie here are own vertices
    loop_by : (v : ℕ) (e : Edge) (es : List Edge) → SeesVertex g sc v →
        ((u : ℕ) → lies_in ends m u ≡ true → SeesVertex g sc u) →
        AllByRecursion (λ x. lies_in ends m (source x) ≡ true) (e ∷ es) → SeesLoop g sc v (e ∷ es)
    loop_by v e es here own all = record {
      scene = record {
        n = sym stands.sized;
        round = refl;
        draws = refl;
        totals = ap known_totals (sym same)
            ∙ stands.totals;
      };
      vertex = here;
      sources = all_weaker (λ x. lies_in ends m (source x) ≡ true) (λ x. SeesVertex g sc (source x))
          (λ x. own (source x)) (e ∷ es) all;
    }

    abbrev here : ℕ → List Edge
    here v = members_with ends m (ins_of sc.graph.vertices edges v)

    sees_by : (v : ℕ) → (are_some (here v) ≡ true → SeesVertex g sc v) →
        ((u : ℕ) → lies_in ends m u ≡ true → SeesVertex g sc u) →
        Sees g sc v (here v)
    sees_by v vertex own = by (here v) refl
        (all_passes (λ e. lies_in ends m (source e)) (ins_of sc.graph.vertices edges v))
      where
        by : (ms : List Edge) → here v ≡ ms → AllByRecursion (λ x. lies_in ends m (source x) ≡ true) ms → Sees g sc v ms
        by [] is all = tt
        by (e ∷ es) is all = loop_by v e es (vertex (ap are_some is)) own all

    -- of the own chunk
    own_rows : (b : Bool) (v : ℕ) → (d == m) ≡ true → lies_in ends d v ≡ b → g.row v ≡ own_row s v
    own_rows b v is lies = row_by true b v is lies

    own_at : d ≡ m → (v : ℕ) → lies_in ends m v ≡ true → SeesVertex g sc v
    own_at is v lies =
        vertex_by g v (own_rows (lies_in ends d v) v (eq-eqb d m is) refl ∙ own_row_is v lies) refl refl
        (own_law most ends edges m v are stands.machine lies)

    -- of another chunk
    module _ (told : IsTold m d state sc) where
      other : (d == m) ≡ false
      other = ne_eqb d m told.other

      abbrev list : List ℕ
      list = refresh_list ends d m edges

      mirrors_are : mirrors s d ≡ list
      mirrors_are = other_list (length ends) m d (λ k. refresh_list ends k m edges) told.machine other

      rows_told : told_rows s sc.round d ≡ map (row_at sc.rows) list
      rows_told =
          let rows : List PlainRow = map (λ v. plain_row (row_at sc.rows v)) list in
          ap (λ l. map told_row (rows_read (field_count state.split) (length l)
          (held_body state (refresh_name sc.round d m)))) mirrors_are
          ∙ ap (λ body. map told_row (rows_read (field_count state.split) (length list) body)) told.body
          ∙ ap (map told_row) (refresh_back (length list) (field_count state.split) rows
          (length-map list (λ v. plain_row (row_at sc.rows v)))
          (all_map (HasFields (field_count state.split)) (λ v. plain_row (row_at sc.rows v)) list told.words))
          ∙ map-map told_row (λ v. plain_row (row_at sc.rows v)) list

      mirror_is : (v : ℕ) → list_any (λ u. u == v) list ≡ true → mirror_row s sc.round d v ≡ row_at sc.rows v
      mirror_is v some =
          ap (λ l. beside empty_row v l (told_rows s sc.round d)) mirrors_are
          ∙ ap (beside empty_row v list) rows_told
          ∙ beside_is empty_row (row_at sc.rows) list v some

      own_too : (v : ℕ) → lies_in ends m v ≡ true → SeesVertex g sc v
      own_too v lies =
          vertex_by g v (by (lies_in ends d v) refl ∙ own_row_is v lies) refl refl
          (own_law most ends edges m v are stands.machine lies)
        where
          by : (c : Bool) → lies_in ends d v ≡ c → g.row v ≡ own_row s v
          by true at_d = absurd (told.other (none_has_two most ends d m v are told.machine stands.machine at_d lies))
          by false not_d = row_by false false v other not_d

      told_at : (v : ℕ) → lies_in ends d v ≡ true → are_some (here v) ≡ true → SeesVertex g sc v
      told_at v lies some =
          let meets : are_some (members_at ends edges m v) ≡ true =
          ap (λ n. are_some (members_with ends m (ins_of n edges v))) (sym stands.sized) ∙ some in
          let low : start_of ends d ≤ v = lies_low ends d v lies in
          let high : v < slice_index ends d = lies_high ends d v lies in
          let among : list_any (λ u. u == v) list ≡ true =
          ap (list_any (λ u. u == v)) (refreshed_law most ends edges d m are told.machine stands.machine)
          ∙ any_kept (λ v. are_some (members_at ends edges m v)) v (chunk_vertices ends d) meets
          (any_range v (start_of ends d) (slice_index ends d - start_of ends d) low (omega arith)) in
          vertex_by g v (row_by false true v other lies ∙ mirror_is v among) refl refl
          (worked_law most ends edges m v are stands.machine (lies_within most ends are d v told.machine lies) meets)

  abbrev within : ℕ → List Edge
  within v = members_with ends m (ins_of sc.graph.vertices edges v)

  own_scan : (v : ℕ) → lies_in ends m v ≡ true → Sees (sight_at state sc.round m) sc v (within v)
  own_scan v lies =
      subst (λ x. Sees (sight_at x sc.round m) sc v (within v)) (sym same)
      (sees_by m v (λ some. own_at m refl v lies) (own_at m refl))

  told_scan : (d v : ℕ) → IsTold m d state sc → lies_in ends d v ≡ true →
      Sees (sight_at state sc.round d) sc v (within v)
  told_scan d v told lies =
      subst (λ x. Sees (sight_at x sc.round d) sc v (within v)) (sym same)
      (sees_by d v (told_at d told v lies) (own_too d told))

pub own_are_seen : OwnAreSeen
own_are_seen most m s sc are stands = (
  subst (λ x. SeesScene (own_sight x sc.round) sc) (sym (same most m s sc are stands))
      (round_seen most m s sc are stands),
  λ v lies. subst (λ x. SeesVertex (own_sight x sc.round) sc v) (sym (same most m s sc are stands))
      (own_seen most m s sc are stands v lies),
)

pub own_scans_seen : OwnScansAreSeen
own_scans_seen most m v s sc are stands lies = own_scan most m s sc are stands v lies

pub told_scans_seen : ToldScansAreSeen
told_scans_seen most m d v s sc are stands told lies = told_scan most m s sc are stands d v told lies
