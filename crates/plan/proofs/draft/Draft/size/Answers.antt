use Rattle.std.proofs.Common.{length, ap, subst, arith}
use Rattle.std.specs.List.{flat_map, All}
use Rattle.std.proofs.lemmas.List.{take_all}
use Rattle.std.proofs.lemmas.List.Elements.{All-more}
use Rattle.plan.specs.Given.{Fits}
use Rattle.plan.specs.Drafts.{given, part_bytes, memory_bytes}
use Rattle.plan.proofs.Drafted.{size_more, tasks_more, draft_length}
use Rattle.plan.proofs.draft.Draft.size.Goals as goal

pub loop-part-preserved : goal.loop-part-preserved
loop-part-preserved c =
    let ps = c.args.self.now.parts.now in
    let l = c.loop-part in
    let s = c.in_ok-size.ensures.value in
    record {
      few = tasks_more ps l.part-index _ l.tasks c.loop-part-test.true l.invariant.few;
      few_bound = omega (arith, l.invariant.few_bound, s.0.tasks);
      each = All-more (λ p. Fits (given p)) ps l.part-index _ c.loop-part-test.true l.invariant.each s.0;
      so_far = size_more ps l.part-index _ _ l.size _ c.loop-part-test.true l.invariant.so_far s.1;
      bound = omega (arith, l.invariant.bound, c.in_ok-size.ensures.bound);
    }

pub returns : goal.returns
returns c =
    let d = c.args.self.now in
    let l = c.loop-part in
    let all = take_all l.part-index d.parts.now c.loop-part-test.false in
    let parts = ap (λ ps. length (flat_map part_bytes ps)) all in
    let memories = ap (λ ps. length (flat_map memory_bytes ps)) all in
    let tasks = ap (λ ps. length (flat_map (λ p. p.tasks.now) ps)) all in
    record {
      value = (
        record {
          windows = c.if-windows-gt256.false;
          channels = c.if-channels-gt128.false;
          parts = c.if-self-gt32.false;
          few = omega (arith, tasks, l.invariant.few, c.if-tasks-gt512.false);
          each = subst (All (λ p. Fits (given p))) all l.invariant.each;
        },
        omega (arith, draft_length d, l.invariant.so_far),
      );
    }
