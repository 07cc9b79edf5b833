-- A clerk is taken out, takes a step, and goes back.
use Rattle.std.proofs.Common.{◌≡◌, ℕ, List, None, Some, refl, ap, ◌∙◌}
use Rattle.ec_base.specs.Tables.{Table, put}
use Rattle.ec_base.specs.declared.counter.Counter.{Counter}
use Rattle.ec_protocol.specs.declared.clerk.Clerk.{Clerk}
use Rattle.ec_protocol.specs.declared.clerk.Out.{Out}
use Rattle.ec_protocol.specs.Clerk.{Doing}
use Rattle.ec_protocol.specs.declared.clerk.ClerkFault.{ClerkFault}
use Rattle.ec_protocol.specs.declared.clerk.ClerkFault.TheVariants as fault
use Rattle.ec_clerk.specs.OfRunning.Faults.{of_clerk}
use Rattle.ec_clerk.specs.OfRunning.Running.{Steps, StaysAt, TakesOut, WouldSpend}
use Rattle.ec_clerk.proofs.OfRunning.Maps.{put-without, put-back}

abbrev pub goes_back : (f : Clerk → Doing) (c : ℕ) (old left new : Table Clerk) (k after : Clerk) (outs : List Out) → TakesOut c old left k → new ≡ put c after left → f k ≡ record { clerk = after; outs = outs; spent = None } → Steps f c old new outs
goes_back f c old left new k after outs out is does = record {
  before = k;
  after = after;
  runs = out.runs;
  does = does;
  put_is = is ∙ ap (put c after) out.left ∙ put-without c after old out.sorted;
}

pub goes_back_same : (f : Clerk → Doing) (c : ℕ) (n : Counter) (old left new : Table Clerk) (k after : Clerk) → TakesOut c old left k → new ≡ put c after left → (f k).spent ≡ Some n → after ≡ k → WouldSpend f c n old new
goes_back_same f c n old left new k after out is spends same = record {
  before = k;
  runs = out.runs;
  spent = spends;
  same = is ∙ ap (λ x. put c x left) same ∙ ap (put c k) out.left ∙ put-back c k old out.sorted out.runs;
}

-- a fault of a step that isn't want of memory is a spent counter, and the clerk is as before
pub stays_at : (f : Clerk → Doing) (c : ℕ) (old left new : Table Clerk) (k after : Clerk) (why : ClerkFault) → TakesOut c old left k → new ≡ put c after left → ((n : Counter) → why ≡ fault.Spent n → (f k).spent ≡ Some n) → ((n : Counter) → why ≡ fault.Spent n → after ≡ k) → (why ≡ fault.NoSuchOp → ⊥) → StaysAt (of_clerk why) f c old new
stays_at f c old left new k after fault.NoSuchOp out is spends same no_such = no_such refl
stays_at f c old left new k after (fault.Spent n) out is spends same no_such = goes_back_same f c n old left new k after out is (spends n refl) (same n refl)
stays_at f c old left new k after fault.NoMemory out is spends same no_such = tt
