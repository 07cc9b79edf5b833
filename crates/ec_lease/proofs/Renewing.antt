-- Renewing, clerk by clerk.
use Rattle.std.proofs.Common.{◌≡◌, ◌&&◌, ℕ, Bool, true, false, not, Some, Result, Ok, Err, sym, ap, ◌∙◌}
use Rattle.std.specs.Prelude.{OnOk}
use Rattle.ec_volume.specs.Update.{member}
use Rattle.ec_protocol.specs.Clerk.{is_session}
use Rattle.ec_protocol.specs.Resumes.{open_session}
use Rattle.ec_lease_machine.specs.Leases.{issue, lease, may_receive, receive, renew_in}
use Rattle.ec_lease_machine.specs.declared.world.Lease.{Lease}
use Rattle.ec_lease_machine.specs.declared.world.LeaseWorld.{LeaseWorld as State}
use Rattle.ec_lease_machine.specs.OfBook.Book.{Booked, with_book}
use Rattle.ec_protocol.specs.declared.world.World.{World}
use Rattle.ec_lease.proofs.Parts.{renew_by}

abbrev pub may_renew : ℕ → ℕ → Lease → State → Bool
may_renew c s a x = (not (member c x.world.cut) && is_session s (open_session c x.world)) && may_receive c a x

by_test : (c s : ℕ) (x : State) (a : Lease) (b : Bool) → b ≡ may_renew c s a x → a ≡ lease s x → renew_in c (Some s) x ≡ renew_by c s x b
by_test c s x a b test is = ap (renew_by c s x) (sym (test ∙ ap (λ a. may_renew c s a x) is))

pub not_renewed : (c s : ℕ) (x : State) (a : Lease) (b : Bool) → b ≡ may_renew c s a x → a ≡ lease s x → b ≡ false → renew_in c (Some s) x ≡ x
not_renewed c s x a b test is fails = by_test c s x a b test is ∙ ap (renew_by c s x) fails

pub renewed : {A E : Type 0} (r : Result A E) (c s : ℕ) (x y : State) (a : Lease) (b : Bool) → b ≡ may_renew c s a x → a ≡ lease s x → b ≡ true → OnOk r (receive c (lease s x) (issue c s x) ≡ y) → OnOk r (renew_in c (Some s) x ≡ y)
renewed (Ok o) c s x y a b test is holds done = by_test c s x a b test is ∙ ap (renew_by c s x) holds ∙ done
renewed (Err f) c s x y a b test is holds done = tt

-- it's issued, and comes to the clerk
pub comes : {A E : Type 0} (r : Result A E) (c s : ℕ) (a : Lease) (old mid new : Booked) (w : World) → a ≡ lease s (with_book old w) → ((w : World) → issue c s (with_book old w) ≡ with_book mid w) → OnOk r ((w : World) → receive c a (with_book mid w) ≡ with_book new w)
    → OnOk r (receive c (lease s (with_book old w)) (issue c s (with_book old w)) ≡ with_book new w)
comes (Ok o) c s a old mid new w is issued received = ap (λ a. receive c a (issue c s (with_book old w))) (sym is) ∙ ap (receive c a) (issued w) ∙ received w
comes (Err f) c s a old mid new w is issued received = tt
