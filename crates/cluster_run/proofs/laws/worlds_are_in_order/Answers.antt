use Rattle.cluster_run.proofs.ReachedWorldLaws.{reached_empty, reached_moves, reached_nearer, reached_sends, reached_still, reached_takes, steps_on}
use Rattle.cluster_run.proofs.laws.worlds_are_in_order.Goals as goal

pub returns : goal.returns
returns g c = record {
  taken = λ w x l r there. reached_takes g.S.Site.work g.S.Site.sound g.met.S.Site.lawful w r x l there;
  sent = λ w m s r at ready. reached_sends g.S.Site.work g.S.Site.sound g.met.S.Site.lawful w r m s at ready;
  reach = λ w e r can. steps_on g.S.Site.work g.S.Site.sound w e r can;
  nearer = λ w e r can. reached_nearer g.S.Site.work g.S.Site.sound g.met.S.Site.lawful w r e can;
  moves = λ w r on. reached_moves g.S.Site.work g.S.Site.sound g.met.S.Site.lawful w r on;
  still = λ w r over. (
    reached_empty g.S.Site.work g.S.Site.sound g.met.S.Site.lawful w r over,
    λ e.
        reached_still g.S.Site.work g.S.Site.sound g.met.S.Site.lawful w r e over,
  );
}
