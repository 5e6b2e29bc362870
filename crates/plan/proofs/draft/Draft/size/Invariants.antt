use Rattle.std.proofs.Common.{◌≡◌, ◌+◌, ◌*◌, ◌≤◌, length, take}
use Rattle.std.specs.List.{flat_map, All}
use Rattle.plan.specs.Given.{Fits}
use Rattle.plan.specs.Drafts.{given, part_bytes, memory_bytes}
use Rattle.plan.proofs.draft.Draft.size.Given as goal

-- What the parts so far come to.
abbrev pub invariant-loop-part : goal.invariant-loop-part
invariant-loop-part l =
    let ps = take l.part-index l.self.parts.now in
    record {
      few : l.tasks ≡ length (flat_map (λ p. p.tasks.now) ps);
      few_bound : l.tasks ≤ 255 * l.part-index;
      each : All (λ p. Fits (given p)) ps;
      so_far : l.size
          ≡ 10 + 5 * length l.self.windows.now + 5 * length l.self.channels.now + (length (flat_map part_bytes ps) + length (flat_map memory_bytes ps));
      bound : l.size ≤ 1930 + 268435456 * l.part-index;
    }
