-- The script of one more line.
use Rattle.std.proofs.Common.{◌≡◌, ℕ, zero, suc, ◌+◌, List, ◌++◌, refl, sym, ap, ◌∙◌, add-zero, add-suc, add-one}
use Rattle.ec_script.specs.OfGenerator.Generator.{next, drawn, state_after, draws_of, draws_to, drawn_for, line_text, line_of, script_of}

further : (more draws start : ℕ) → state_after more (state_after draws start) ≡ state_after (draws + more) start
further zero draws start = ap (λ d. state_after d start) (sym (add-zero draws))
further (suc more) draws start = ap next (further more draws start) ∙ ap (λ d. state_after d start) (sym (add-suc draws more))

drawn_here : (k start before x : ℕ) → x ≡ state_after (draws_to before) start → drawn (state_after k x) ≡ drawn_for start before k
drawn_here k start before x is = ap (λ s. drawn (state_after k s)) is ∙ ap drawn (further k (draws_to before) start)

same_line : (l a b c e l' a' b' c' e' : ℕ) → l ≡ l' → a ≡ a' → b ≡ b' → c ≡ c' → e ≡ e' → line_text l a b c e ≡ line_text l' a' b' c' e'
same_line l a b c e l' a' b' c' e' k p q r s = rw k (rw p (rw q (rw r (rw s refl))))

line_here : (start before x : ℕ) → x ≡ state_after (draws_to before) start → line_text (before + 1) (drawn (state_after 1 x)) (drawn (state_after 2 x)) (drawn (state_after 3 x)) (drawn (state_after 4 x)) ≡ line_of start before
line_here start before x is = same_line _ _ _ _ _ _ _ _ _ _ (add-one before) (drawn_here 1 start before x is) (drawn_here 2 start before x is) (drawn_here 3 start before x is) (drawn_here 4 start before x is)

pub one_more_line : (out more : List ℕ) (start before x : ℕ) → out ≡ script_of start before → x ≡ state_after (draws_to before) start → more ≡ out ++ line_text (before + 1) (drawn (state_after 1 x)) (drawn (state_after 2 x)) (drawn (state_after 3 x)) (drawn (state_after 4 x)) → more ≡ script_of start (before + 1)
one_more_line out more start before x written is e = e ∙ ap (λ l. out ++ l) (line_here start before x is) ∙ ap (λ o. o ++ line_of start before) written ∙ ap (script_of start) (sym (add-one before))

pub one_more_state : (start before x y : ℕ) → x ≡ state_after (draws_to before) start → y ≡ state_after (draws_of (before + 1)) x → y ≡ state_after (draws_to (before + 1)) start
one_more_state start before x y is e =
    e ∙ ap (λ l. state_after (draws_of l) x) (add-one before) ∙ ap (state_after (draws_of (suc before))) is
    ∙ further (draws_of (suc before)) (draws_to before) start ∙ ap (λ l. state_after (draws_to l) start) (sym (add-one before))
