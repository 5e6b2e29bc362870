use Rattle.std.proofs.Common.{sym, ap, ◌∙◌}
use Rattle.octets.specs.Bytes.{put, bytes_of}
use Rattle.octets.proofs.Numbers.{bytes_of-mod}
use Rattle.cpu.specs.Meaning.{store_bytes}
use Rattle.cpu.proofs.access.write.Goals as goal

pub returns-in-Sb : goal.returns-in-Sb
returns-in-Sb c = record {
  after = c.write.ensures.after
      ∙ ap (put c.args.b.now c.args.k) (bytes_of-mod 1 c.args.value ∙ ap (λ k. bytes_of (store_bytes k) c.args.value) (sym c.in-Sb.is));
}

pub returns-in-Sh : goal.returns-in-Sh
returns-in-Sh c = record {
  after = c.write-in-Sh.ensures.after
      ∙ ap (put c.args.b.now c.args.k) (bytes_of-mod 2 c.args.value ∙ ap (λ k. bytes_of (store_bytes k) c.args.value) (sym c.in-Sh.is));
}
