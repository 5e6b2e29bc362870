-- How many bytes each record of the format has, which each of them owes as a law.
use Rattle.std.proofs.Common.{ℕ, ◌+◌, ◌-◌, ◌&&◌, leb, length, arith, sym}
use Rattle.std.proofs.lemmas.Bool.{leb-true}
use Rattle.octets.specs.Bytes.{at}
use Rattle.codec.specs.Codec.{got, Codec, number, chain, ◌▸◌, named}
use Rattle.codec.proofs.Outcomes.{got_place, map-got, cond_got, chain_got}
use Rattle.plan.specs.Layout.{field, header, window, channel, task, part_head}
use Rattle.plan.specs.Rows.{row_byte, arrival}
use Rattle.plan.specs.Records.{HasSize}

pub number_size : (missing fault n lo hi : ℕ) → HasSize (number missing fault n lo hi) n
number_size missing fault n lo hi =
    record {
      ends =
          λ xs k j a e.
          let v = at n xs k in
          let p = cond_got _ _ missing (length xs) a j e in
          let q = cond_got (leb lo v && leb v hi) (got v (k + n)) fault k a j p.1 in
          sym (got_place q.1);
      there = λ xs k j a e. leb-true (k + n) (length xs) (cond_got _ _ missing (length xs) a j e).0;
    }

field_size : (n lo hi : ℕ) → HasSize (field n lo hi) n
field_size n lo hi = number_size 1 3 n lo hi

module _ {A B : Type 0} where
  pub chain_size : (c : Codec A) (d : A → Codec B) (m n : ℕ) → HasSize c m → ((a : A) → HasSize (d a) n) → HasSize (chain c d) (m + n)
  chain_size c d m n hc hd =
      record {
        ends = λ xs k j ab e. let p = chain_got c d xs k j ab e in omega (arith, hc.ends xs k p.1 p.0 p.3, (hd p.0).ends xs p.1 j p.2 p.4);
        there = λ xs k j ab e. let p = chain_got c d xs k j ab e in omega (arith, hc.ends xs k p.1 p.0 p.3, (hd p.0).there xs p.1 j p.2 p.4);
      }

  pub ▸-size : (c : Codec A) (d : Codec B) (m n : ℕ) → HasSize c m → HasSize d n → HasSize (c ▸ d) (m + n)
  ▸-size c d m n hc hd = chain_size c (λ a. d) m n hc (λ a. hd)

  pub named_size : (to : A → B) (from : B → A) (c : Codec A) (n : ℕ) → HasSize c n → HasSize (named to from c) n
  named_size to from c n h =
      record {
        ends = λ xs k j b e. let p = map-got to (c.read xs k) b j e in h.ends xs k j p.0 p.1;
        there = λ xs k j b e. let p = map-got to (c.read xs k) b j e in h.there xs k j p.0 p.1;
      }

pub header_size : HasSize header 10
header_size =
    named_size _ _ _ 10
    (▸-size _ _ 4 6 (number_size 1 2 4 0x454d4954 0x454d4954)
    (▸-size _ _ 2 4 (field_size 2 16 65535)
    (▸-size _ _ 1 3 (field_size 1 1 32) (▸-size _ _ 2 1 (field_size 2 1 256) (field_size 1 0 128)))))

pub window_size : (s n : ℕ) → HasSize (window s n) 5
window_size s n = named_size _ _ _ 5 (▸-size _ _ 1 4 (field_size 1 0 (n - 1)) (field_size 4 (s + 1) 1000000))

pub channel_size : (n : ℕ) → HasSize (channel n) 5
channel_size n =
    named_size _ _ _ 5
    (▸-size _ _ 1 4 (field_size 1 0 (n - 1)) (▸-size _ _ 1 3 (field_size 1 0 (n - 1)) (▸-size _ _ 2 1 (field_size 2 0 1024) (field_size 1 0 64))))

pub task_size : HasSize task 10
task_size =
    named_size _ _ _ 10
    (▸-size _ _ 1 9 (field_size 1 0 255) (chain_size _ _ 4 5 (field_size 4 1 100000000) (λ p. ▸-size _ _ 4 1 (field_size 4 1 p) (field_size 1 0 255))))

pub part_head_size : HasSize part_head 3
part_head_size = named_size _ _ _ 3 (▸-size _ _ 2 1 (field_size 2 1 256) (field_size 1 0 16))

pub row_byte_size : (hi : ℕ) → HasSize (row_byte hi) 1
row_byte_size hi = number_size 5 5 1 0 hi

pub arrival_size : (n : ℕ) → HasSize (arrival n) 2
arrival_size n = named_size _ _ _ 2 (▸-size _ _ 1 1 (row_byte_size (n - 1)) (row_byte_size 255))
