-- What a run of few steps counts.
use Rattle.std.proofs.Common.{arith, ◌≤◌, ◌<◌, ◌+◌, ◌*◌, ℕ, List, [], ◌∷◌, length, Option, Some, None}
use Rattle.std.specs.Prelude.{⊤}
use Rattle.ec_base.specs.Tables.{Table}
use Rattle.ec_base.specs.declared.counter.Counter.{Counter}
use Rattle.ec_protocol.specs.Server.{first_spent}
use Rattle.ec_protocol.specs.declared.clerk.Clerk.{Clerk}
use Rattle.ec_protocol.specs.declared.clerk.Waiting.{Waiting}
use Rattle.ec_protocol.specs.declared.server.Server.{Server}
use Rattle.ec_drill.specs.OfPromise.OfSpent.Spent.{MaySpend}

-- Each line is a step, and at most 4,096 deliveries for each of sixteen clerks, and once more so many, follow it.
abbrev pub line_steps : ℕ
line_steps = 69633

-- 65,536 times so many
abbrev pub most_steps : ℕ
most_steps = 4563468288

-- no counter was spent, or one that a drill may spend
abbrev pub OnSpent : Option Counter → Type 0
OnSpent None = ⊤
OnSpent (Some n) = MaySpend n

pub spends : (o : Option Counter) (n : Counter) → OnSpent o → MaySpend n → OnSpent (first_spent o n)
spends None n h m = m
spends (Some k) n h m = h

-- The server: a number of a token is given out for a want that waited, or for ids, and each step notes one want at most.
abbrev pub IsLow : ℕ → Server → Type 0
IsLow steps v = v.number + length v.recalls ≤ steps

-- A clerk.

-- the least batch under way, or the next one
abbrev pub least : ℕ → Table (List ℕ) → ℕ
least next [] = next
least next (b ∷ bs) = b.0

-- the numbers rise, from the first one on, and stay below the last one
abbrev pub Rises : ℕ → ℕ → Table (List ℕ) → Type 0
Rises first last [] = first ≤ last
Rises first last (b ∷ bs) = (first ≤ b.0) × (b.0 < last) × Rises (b.0 + 1) last bs

-- of these batches under way the next one is at most a window above the least
pub record IsWindow (next : ℕ) (bs : Table (List ℕ)) : Type 0 where
  pub near : next ≤ least next bs + 8
  pub rises : Rises (least next bs) next bs

-- one more asking for ids can be made
abbrev pub unasked : Option ℕ → ℕ
unasked None = 1
unasked (Some n) = 0

-- a session is open
abbrev pub opened : Option ℕ → ℕ
opened None = 0
opened (Some s) = 1

-- What counts of a clerk.
pub record Counts : Type 0 where
  pub calls : ℕ
  pub next : ℕ
  pub waiting : List Waiting
  pub asks : ℕ
  pub asking : Option ℕ
  pub next_batch : ℕ
  pub batches : Table (List ℕ)
  pub round : ℕ
  pub session : Option ℕ

abbrev pub counts : Clerk → Counts
counts k = record {
  calls = k.calls;
  next = k.log.next;
  waiting = k.waiting;
  asks = k.asks;
  asking = k.asking;
  next_batch = k.log.next_batch;
  batches = k.log.batches;
  round = k.age.round;
  session = k.session;
}

-- Behind so many calls and steps: a call issues one operation at most, and only then it's answered; ids are asked for once until an answer comes, and
-- an answer is a step; a step begins a window of batches at most; and a round ends by a step behind the one that opened its session.
pub record IsFewCounts (calls steps : ℕ) (k : Counts) : Type 0 where
  pub made : k.calls ≤ calls
  pub ops : k.next + length k.waiting ≤ k.calls + 1
  pub asks : k.asks + unasked k.asking ≤ steps + 1
  pub batch : k.next_batch ≤ 8 * steps + 1
  pub window : IsWindow k.next_batch k.batches
  pub rounds : 2 * k.round + opened k.session ≤ steps

abbrev pub IsFew : ℕ → ℕ → Clerk → Type 0
IsFew calls steps k = IsFewCounts calls steps (counts k)

-- In a step the least batch under way stays, so that a window's batches begin at most.
pub record IsGoingCounts (calls steps : ℕ) (k : Counts) (o : Option Counter) : Type 0 where
  pub made : k.calls ≤ calls
  pub ops : k.next + length k.waiting ≤ k.calls + 1
  pub asks : k.asks + unasked k.asking ≤ steps + 1
  pub low : least k.next_batch k.batches + 8 ≤ 8 * steps + 1
  pub window : IsWindow k.next_batch k.batches
  pub rounds : 2 * k.round + opened k.session ≤ steps
  pub spent : OnSpent o

pub ends-few : (calls steps : ℕ) (k : Counts) (o : Option Counter) → IsGoingCounts calls steps k o → IsFewCounts calls steps k
ends-few calls steps k o h = record {
  made = h.made;
  ops = h.ops;
  asks = h.asks;
  batch = omega (arith, h.low, h.window.near);
  window = h.window;
  rounds = h.rounds;
}

-- more calls and steps
pub more-few : (calls more steps later : ℕ) (k : Counts) → calls ≤ more → steps ≤ later → IsFewCounts calls steps k → IsFewCounts more later k
more-few calls more steps later k c s h = record {
  made = omega (arith, h.made, c);
  ops = h.ops;
  asks = omega (arith, h.asks, s);
  batch = omega (arith, h.batch, s);
  window = h.window;
  rounds = omega (arith, h.rounds, s);
}
