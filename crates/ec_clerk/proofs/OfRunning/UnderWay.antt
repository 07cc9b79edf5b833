-- The calls under way, by what was taken out and put back.
use Rattle.std.proofs.Common.{◌≡◌, ℕ, Bool, true, [], Option, None, Some, sym, ap, subst, ◌∙◌}
use Rattle.std.specs.Prelude.{T, is_some}
use Rattle.std.specs.Ordering.{nat_cmp}
use Rattle.std.specs.FinMap.Entries.{is_sorted}
use Rattle.ec_base.specs.Tables.{Table, at, at_or, or_else, put, without}
use Rattle.ec_plain.specs.declared.call.Call.{Call}
use Rattle.ec_clerk.specs.OfRunning.Calls.{less}
use Rattle.ec_clerk.proofs.OfRunning.Maps.{put-without}

-- one call is taken out
pub call_taken : (c n : ℕ) (calls left new : Table (Table (ℕ × Call))) (own rest : Table (ℕ × Call)) (call : Option (ℕ × Call)) → T (is_sorted nat_cmp calls) → at c calls ≡ Some own → left ≡ without c calls → is_some call ≡ true → rest ≡ without n own → new ≡ put c rest left → new ≡ less c n calls call
call_taken c n calls left new own rest None sorted mine left_is has rest_is is = absurd (subst (λ (b : Bool). T b) (sym has) tt)
call_taken c n calls left new own rest (Some l) sorted mine left_is has rest_is is =
    is ∙ ap (put c rest) left_is ∙ put-without c rest calls sorted ∙ ap (λ (es : Table (ℕ × Call)). put c es calls) rest_is
    ∙ ap (λ (o : Option (Table (ℕ × Call))). put c (without n (or_else [] o)) calls) (sym mine)

-- one more call
pub call_added : (c n : ℕ) (x : ℕ × Call) (calls left new : Table (Table (ℕ × Call))) (own more : Table (ℕ × Call)) → T (is_sorted nat_cmp calls) → own ≡ at_or [] c calls → left ≡ without c calls → more ≡ put n x own → new ≡ put c more left → new ≡ put c (put n x (at_or [] c calls)) calls
call_added c n x calls left new own more sorted own_is left_is more_is is =
    is ∙ ap (put c more) left_is ∙ put-without c more calls sorted ∙ ap (λ (es : Table (ℕ × Call)). put c es calls) more_is
    ∙ ap (λ (es : Table (ℕ × Call)). put c (put n x es) calls) own_is

-- the call that was seen is the one that is taken out
pub is_there : (c n : ℕ) (calls : Table (Table (ℕ × Call))) (seen own : Table (ℕ × Call)) (call : Option (ℕ × Call)) → Some seen ≡ at c calls → Some own ≡ at c calls → call ≡ at n own → is_some (at n seen) ≡ true → is_some call ≡ true
is_there c n calls seen own call seen_is own_is call_is has =
    ap (λ (o : Option (ℕ × Call)). is_some o) call_is ∙ ap (λ (o : Option (Table (ℕ × Call))). is_some (at n (or_else [] o))) (own_is ∙ sym seen_is) ∙ has
