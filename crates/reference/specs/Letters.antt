-- What a message and a channel of the program stand for. Assumes nothing: these are definitions.
use Rattle.std.specs.Prelude.{ℕ, ◌+◌, ◌-◌, ◌%◌, cond, ◌&&◌, List, [], ◌∷◌, map, length, ◌==◌, nat_le}
use Rattle.std.specs.List.{between}
use Rattle.octets.specs.Bytes.{put}
use Rattle.cpu.specs.declared.call.Answer.{Answer}
use Rattle.cpu.specs.declared.call.Answer.TheVariants.{Value, Message}
use Rattle.model.specs.World.{Sent}
use Rattle.model.specs.Tick.{Sight, may_send, sending, no}
use Rattle.reference.specs.declared.letter.Letter.{Letter}
use Rattle.reference.specs.declared.queue.Queue.{Queue}
use Rattle.reference.specs.Kept.{held}

unfoldable pub sent_of : Letter → Sent
sent_of l = record { at = l.sent; bytes = l.bytes.items }

unfoldable pub sents_of : Queue → List Sent
sents_of q = map sent_of (held q.messages)

unfoldable pub sight_of : Queue → Sight
sight_of q = record { plan = q.plan; messages = sents_of q }

-- What a call with a channel comes to: what comes back, the messages that are in the channel then, and the memory.
pub record Exchange : Type 0 where
  pub answer : Answer
  pub messages : List Sent
  pub memory : List ℕ

unfoldable pub refusing : Sight → List ℕ → Exchange
refusing s m = record { answer = Value no; messages = s.messages; memory = m }

-- Partition q sends n bytes of memory m from address a on in tick t.
unfoldable pub posting : ℕ → ℕ → Sight → List ℕ → ℕ → ℕ → Exchange
posting q t s m a n =
    cond (nat_le (a + n) (length m) && may_send q s n) (record { answer = Value 0; messages = sending t s (between a (a + n) m); memory = m }) (refusing s m)

-- Partition q takes the first of these messages to address a of memory m in tick t.
unfoldable pub collecting_first : ℕ → Sight → List ℕ → ℕ → List Sent → Exchange
collecting_first t s m a [] = refusing s m
collecting_first t s m a (x ∷ xs) =
    cond (nat_le (a + length x.bytes) (length m))
    (record {
      answer = Message ((t - x.at) % no) (length x.bytes);
      messages = cond (s.plan.places == 0) s.messages xs;
      memory = put m a x.bytes;
    })
    (refusing s m)

unfoldable pub collecting : ℕ → ℕ → Sight → List ℕ → ℕ → Exchange
collecting q t s m a = cond (s.plan.to == q) (collecting_first t s m a s.messages) (refusing s m)
