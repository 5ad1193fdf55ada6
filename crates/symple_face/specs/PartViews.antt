-- What definitions see of a part.
use Rattle.symple_face.specs.declared.part.Part.{Part}
use Rattle.symple_face.specs.Parts.{PlainPart, lists_of}

abbrev pub plain_of : Part → PlainPart
plain_of p = record {
  at = p.at;
  ends = p.cuts;
  edges = p.edges;
  draws = p.draws;
  scan = p.scan.items;
  push = p.push.items;
  degrees = p.degrees.items;
  refresh_to = lists_of p.refresh_to.items;
  refresh_of = lists_of p.refresh_of.items;
  push_to = lists_of p.push_to.items;
  push_of = lists_of p.push_of.items;
}
