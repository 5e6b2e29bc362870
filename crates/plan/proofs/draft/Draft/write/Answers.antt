use Rattle.std.proofs.Common.{length, sym, ap, ◌∙◌, arith}
use Rattle.octets.specs.Bytes.{put}
use Rattle.plan.specs.Drafts.{draft_image}
use Rattle.plan.proofs.Drafted.{draft_written, read_back}
use Rattle.plan.proofs.draft.Draft.write.Goals as goal

pub fill-requires-clause-room : goal.fill-requires-clause-room
fill-requires-clause-room c = omega (arith, c.in-Some.ensures.value.1, ap length (draft_written c.args.self.now))

pub returns : goal.returns
returns c =
    let d = c.args.self.now in
    let s = c.in-Some.ensures.value in
    let w = c.fill.ensures.puts.after ∙ ap (put c.args.out.now 0) (sym (draft_written d)) in
    record { value = (s.0, s.1, w); read = λ b. read_back (draft_image d) c.args.out.now c.fill.new.out c.in-Some.n b s.1 w }
