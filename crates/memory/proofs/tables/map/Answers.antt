use Rattle.std.proofs.Common.{◌≡◌, ℕ, ◌-◌, ◌*◌, ◌/◌, ◌<◌, length, sym, ◌∙◌, arith, rules}
use Rattle.std.proofs.lemmas.List.{length-take-le}
use Rattle.octets.specs.Bytes.{at}
use Rattle.memory.specs.Frames.{pages_of, leaf_entry}
use Rattle.memory.proofs.Entries.{second_long, tables_mapped, tables_memory, tables_behind}
use Rattle.memory.proofs.tables.map.Goals as goal

pub slice_bounds-write_table-end-2 : goal.slice_bounds-write_table-end-2
slice_bounds-write_table-end-2 c = sym (length-take-le 4096 c.args.b.now (omega arith))

pub write_table-requires-clause-size : goal.write_table-requires-clause-size
write_table-requires-clause-size c = length-take-le 4096 c.args.b.now (omega arith)

pub returns : goal.returns
unfolding pages_of
returns c =
    let b = c.args.b.now in
    let root = c.write_table.new.t in
    let leaf = c.write_table-2.new.t in
    let lr : length root ≡ 4096 = c.write_table.auto.t ∙ length-take-le 4096 b (omega arith) in
    let ll : length leaf ≡ 4096 = c.write_table-2.auto.t ∙ second_long b root lr c.requires.whole in
    let leaves : (i : ℕ) → i < 1024 → at 4 leaf (4 * i) ≡ leaf_entry ((length b - 32768) / 4096) i =
    λ i h. let e = c.write_table-2.ensures.entries i h in search rules in
    record {
      mapped = tables_mapped b root lr c.requires.whole leaf ll c.requires.few c.write_table.ensures.entries leaves;
      memory = tables_memory b root lr c.requires.whole leaf ll;
      behind = tables_behind b root lr c.requires.whole leaf ll;
    }
