-- What holds of a result.
use Rattle.std.proofs.Common.{◌≡◌, Result, Ok, Err, OnOk, OnErr, IfErr, sym, subst}

pub on_err : {A E P : Type 0} (r : Result A E) → P → OnErr r P
on_err (Ok a) p = tt
on_err (Err e) p = p

pub on_ok : {A E P Q : Type 0} (r : Result A E) → (P → Q) → OnOk r P → OnOk r Q
on_ok (Ok a) f p = f p
on_ok (Err e) f p = tt

pub err_of : {A E P Q : Type 0} (r : Result A E) → (P → Q) → OnErr r P → OnErr r Q
err_of (Ok a) f p = tt
err_of (Err e) f p = f p

pub and_result : {A E P Q R : Type 0} (r : Result A E) → OnOk r P → OnOk r Q → (P → Q → R) → OnOk r R
and_result (Ok a) p q f = f p q
and_result (Err e) p q f = tt

pub and_results : {A E P Q R S : Type 0} (r : Result A E) → OnOk r P → OnOk r Q → OnOk r R → (P → Q → R → S) → OnOk r S
and_results (Ok a) p q s f = f p q s
and_results (Err e) p q s f = tt

-- the only error that there can be
pub err_at : {A E P : Type 0} (F : E → Type 0) (r : Result A E) (error : E) → IfErr r (λ e. e ≡ error) → OnErr r P → (P → F error) → IfErr r F
err_at F (Ok a) error is p f = tt
err_at F (Err e) error is p f = subst F (sym is) (f p)

-- what holds of an error holds of the one that there is
pub at_err : {A E : Type 0} (F : E → Type 0) (r : Result A E) (error : E) → r ≡ Err error → IfErr r F → F error
at_err F r error is p = subst (λ x. IfErr x F) is p
