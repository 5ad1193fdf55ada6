use Rattle.std.proofs.Common.{◌≡◌, ℕ, ◌+◌, ◌<◌, ◌≤◌, Bool, true, false, List, [], ◌∷◌, ◌++◌, length, Option, None, Result, refl, sym, ◌∙◌, arith}
use Rattle.std.proofs.lemmas.List.Elements.{All-append, All-cons, All-nil}
use Rattle.std.proofs.lemmas.Bool.Decides.{nat_tests}
use Rattle.std.proofs.lemmas.Grind.{common_steps}
use Rattle.vert_base.specs.declared.limits.TheConstants.{EDGES}
use Rattle.vert_base.specs.declared.graph.Edge.{Edge}
use Rattle.edge_reader.specs.declared.entry.Entry.{Entry}
use Rattle.edge_reader.specs.declared.entry.Entry.TheVariants.{Skipped, Malformed, TooLarge, Read}
use Rattle.edge_reader.specs.declared.fault.EdgeFault.{EdgeFault}
use Rattle.edge_reader.specs.EdgeList.{reversed, bound_of}
use Rattle.edge_reader.specs.EdgeText.{limit_of, code_of, edges_of, edges_from}
use Rattle.vert_base.specs.Neighbours.{AreBelow}

-- both ids are below n
abbrev pub IsBelow : ℕ → Edge → Type 0
IsBelow n edge = (edge.from.0 < n) × (edge.to.0 < n)

-- ids lie below what they ask for
pub bound_covers : (m : ℕ) (edges : List Edge) → bound_of edges ≤ m → AreBelow m edges
bound_covers m [] h = All-nil _
bound_covers m (edge ∷ edges) h =
    let from : edge.from.0 < m = omega arith in
    let to : edge.to.0 < m = omega arith in
    All-cons (IsBelow m) edge edges (from, to) (bound_covers m edges (omega arith))

-- an entry that no code refuses: its edges stand behind those in front, and the other entries go on
module _ (given : Option ℕ) (both : Bool) (fault : ℕ → ℕ → EdgeFault) (number : ℕ) (front more : List Edge)
    (entry : Entry) (left entries : List Entry) (whole : Result (List Edge) EdgeFault) where
  pub entry_added : left ≡ entry ∷ entries → code_of given both (length front) entry ≡ None →
      more ≡ front ++ edges_of both entry → edges_from given both fault number front left ≡ whole →
      edges_from given both fault (number + 1) more entries ≡ whole
  entry_added first fine joined reading =
      rw joined (sym (rw (first, fine) refl) ∙ reading)

-- its edges keep to the most
pub few_added : (given : Option ℕ) (both : Bool) (front more : List Edge) (entry : Entry)
    → code_of given both (length front) entry ≡ None → more ≡ front ++ edges_of both entry → length front ≤ EDGES →
    length more ≤ EDGES
few_added given both front more Skipped fine joined few = grind (arith, common_steps, nat_tests)
few_added given both front more Malformed fine joined few = grind (arith, common_steps, nat_tests)
few_added given both front more TooLarge fine joined few = grind (arith, common_steps, nat_tests)
few_added given both front more (Read edge) fine joined few = grind (arith, common_steps, nat_tests)

ids_below : (given : Option ℕ) (both : Bool) (count : ℕ) (edge : Edge) → code_of given both count (Read edge) ≡ None →
    IsBelow (limit_of given) edge
ids_below given both count edge fine =
    let from : edge.from.0 < limit_of given = grind (arith, nat_tests) in
    let to : edge.to.0 < limit_of given = grind (arith, nat_tests) in
    (from, to)

edges_below : (given : Option ℕ) (both : Bool) (count : ℕ) (entry : Entry) → code_of given both count entry ≡ None →
    AreBelow (limit_of given) (edges_of both entry)
edges_below given both count Skipped fine = All-nil _
edges_below given both count Malformed fine = All-nil _
edges_below given both count TooLarge fine = All-nil _
edges_below given false count (Read edge) fine =
    let below = ids_below given false count edge fine in
    All-cons (IsBelow (limit_of given)) edge [] below (All-nil _)
edges_below given true count (Read edge) fine =
    let below = ids_below given true count edge fine in
    All-cons (IsBelow (limit_of given)) edge (reversed edge ∷ []) below
    (All-cons (IsBelow (limit_of given)) (reversed edge) [] (below.1, below.0) (All-nil _))

-- its edges keep below the limit
pub below_added : (given : Option ℕ) (both : Bool) (front more : List Edge) (entry : Entry)
    → code_of given both (length front) entry ≡ None → more ≡ front ++ edges_of both entry →
    AreBelow (limit_of given) front → AreBelow (limit_of given) more
below_added given both front more entry fine joined below =
    rw joined (All-append (IsBelow (limit_of given)) front (edges_of both entry) below
    (edges_below given both (length front) entry fine))
