use Rattle.std.proofs.Common.{◌≡◌, ◌+◌, ◌%◌, [], ◌∷◌, ap, ◌∙◌, arith}
use Rattle.octets.specs.Bytes.{put, bytes_of}
use Rattle.octets.proofs.Numbers.{length-bytes_of}
use Rattle.octets.proofs.Puts.{put-behind}
use Rattle.partition.specs.Shown.{entry_bytes}
use Rattle.partition.proofs.shown.Shown.note.Goals as goal

pub returns-clause-after : goal.returns-clause-after
unfolding entry_bytes bytes_of
returns-clause-after c =
    let z = c.args.self.now.bytes.now in
    let k = c.args.self.now.«at» in
    let t = c.args.time in
    let low : c.args.byte % 256 ≡ c.args.byte = omega (arith, c.ranges.byte.fits) in
    c.write-2.ensures.after
    ∙ ap (λ v. put c.write.new.b (k + 8) (v ∷ [])) low
    ∙ ap (λ xs. put xs (k + 8) (c.args.byte ∷ [])) c.write.ensures.after
    ∙ put-behind z (bytes_of 8 t) (c.args.byte ∷ []) k (k + 8) (omega (arith, length-bytes_of 8 t)) (omega (arith, c.requires))
