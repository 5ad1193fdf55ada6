use Rattle.std.proofs.Common.{◌≡◌, ◌<◌, ◌++◌, [], ◌∷◌, length, ap, sym, arith, length-append}
use Rattle.std.specs.Prelude.{flat_map}
use Rattle.std.proofs.lemmas.Bool.Decides.{nat_tests}
use Rattle.link_core.specs.LinkTexts.{event_line}
use Rattle.link_core.proofs.ReadEvents.{begun, begun_is, front_bad, front_done, front_more, left_few, more, more_is}
use Rattle.link_core.proofs.read.read_links.Goals as goal

pub returns-in_default-clause-again : goal.returns-in_default-clause-again
returns-in_default-clause-again c = λ m es says.
    c.in_default.ensures.found m (flat_map event_line es) says.is.some says.is.few says.spelled

pub returns-in_default-event_at-clause-told : goal.returns-in_default-event_at-clause-told
returns-in_default-event_at-clause-told c =
    let kept = c.events.invariant in
    let long : 0 < length c.events.rest.now = grind (arith, nat_tests, c.events-test.ensures) in
    record {
      machines = c.in-Some.machines;
      events = c.events.events.items;
      rest = c.events.rest.now;
      is = kept.is;
      fits = kept.fits;
      spelled = kept.spelled;
      bad = record {
        some = λ e. omega (arith, ap length e, long);
        none = λ e behind is same. c.in_default-event_at.ensures.found e behind is same;
      };
      counted = kept.counted;
    }

pub returns-in_default-event_at-clause-again : goal.returns-in_default-event_at-clause-again
returns-in_default-event_at-clause-again c = λ m es says.
    let long : 0 < length c.events.rest.now = grind (arith, nat_tests, c.events-test.ensures) in
    front_bad c.in-Some.machines c.events.events.items c.events.rest.now m es long
    (λ e behind is same. c.in_default-event_at.ensures.found e behind is same) (c.events.invariant.front m es says)

pub returns-clause-again : goal.returns-clause-again
returns-clause-again c = λ m es says.
    let none : length c.events.rest.now ≡ 0 = grind (arith, nat_tests, c.events-test.ensures) in
    front_done c.in-Some.machines c.events.events.items c.events.rest.now m es none
    (c.events.invariant.front m es says)

pub events-init : goal.events-init
events-init c =
    let read = c.in-Some.ensures in
    record {
      is = begun_is c.in-Some.machines c.new-events.result.items read.few c.new-events.ensures.items;
      spelled = begun c.args.text.now c.in-Some.machines c.new-events.result.items c.in-Some.behind.now read.spelled
          c.new-events.ensures.items;
      counted = let none = c.new-events.ensures.items in omega (arith, ap length none);
      fits = omega arith;
      few = let all = read.spelled in left_few c.args.text.now c.in-Some.machines c.in-Some.behind.now all;
      front = λ m es says.
          let same = read.found m (flat_map event_line es) says.is.some says.is.few says.spelled in
          record {
            same = same.0;
            others = es;
            is = sym (ap (λ xs. xs ++ es) c.new-events.ensures.items);
            each = says.is.each;
            left = same.1;
          };
    }

pub events-preserved : goal.events-preserved
events-preserved c =
    let kept = c.events.invariant in
    let read = c.in-Some-event_at.ensures in
    let done = c.events.events.items in
    let event = c.in-Some-event_at.event in
    let new = c.push.new.self.items in
    let items = c.in_ok-push.ensures.items in
    let long : 0 < length c.events.rest.now = grind (arith, nat_tests, c.events-test.ensures) in
    let shorter = read.shorter in
    record {
      is = more_is c.in-Some.machines done new event kept.is read.event items;
      spelled = more c.args.text.now c.in-Some.machines done new event c.events.rest.now
          c.in-Some-event_at.behind.now kept.spelled read.spelled items;
      counted = let counted = kept.counted in omega (arith, ap length items, length-append done (event ∷ []), counted);
      fits = kept.fits;
      few = let few = kept.few in omega (arith, few, shorter);
      front = λ m es says.
          front_more c.in-Some.machines done new c.events.rest.now c.in-Some-event_at.behind.now event m es long items
          (λ e b is same. read.found e b is same) (kept.front m es says);
    }
