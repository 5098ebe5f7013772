-- Coefficients that are changed one after another where they stand.
use Rattle.std.proofs.Common.{◌≡◌, ℕ, zero, suc, ◌+◌, ◌<◌, ◌≤◌, List, [], ◌∷◌, ◌++◌, length, get_or, refl, ap, sym, ◌∙◌, arith}
use Rattle.std.proofs.lemmas.List.{get_or_default}
use Rattle.normal_form.specs.declared.term.NormalTerm.{NormalTerm}
use Rattle.normal_form.specs.Normal.{Rises}
use Rattle.normal_form.specs.Terms.{with_coefficient}
use Rattle.normal_form.proofs.Sums.{rises_at}
use Rattle.cut_rules.specs.Steps.{kept, changed, partly_changed}
use Rattle.cut_rules.proofs.Changed.{kept_one}

long : (f : ℕ → ℕ → ℕ) (i : ℕ) (ts : List NormalTerm) → length (partly_changed f i ts) ≡ length ts
long f zero ts = refl
long f (suc i) [] = refl
long f (suc i) (t ∷ ts) = ap suc (long f i ts)

-- the next term is as it was
next_at : (f : ℕ → ℕ → ℕ) (i : ℕ) (ts : List NormalTerm) (d : NormalTerm) → get_or (partly_changed f i ts) i d ≡ get_or ts i d
next_at f zero ts d = refl
next_at f (suc i) [] d = refl
next_at f (suc i) (t ∷ ts) d = next_at f i ts d

one_more : (f : ℕ → ℕ → ℕ) (i c : ℕ) (ts : List NormalTerm) (t : NormalTerm) → i < length ts → t ≡ get_or ts i t → c ≡ f (t.var.0) t.coef → with_coefficient (partly_changed f i ts) i c ≡ partly_changed f (suc i) ts
one_more f i c [] t h e k = absurd (omega (arith, h))
one_more f zero c (x ∷ ts) t h e k = ap (λ (n : ℕ). (record x { coef = n }) ∷ ts) (k ∙ ap (λ (u : NormalTerm). f (u.var.0) u.coef) e)
one_more f (suc i) c (x ∷ ts) t h e k = ap (λ (us : List NormalTerm). (record x { coef = f (x.var.0) x.coef }) ∷ us) (one_more f i c ts t (omega (arith, h)) e k)

all : (f : ℕ → ℕ → ℕ) (low : ℕ) (ts : List NormalTerm) → Rises low ts → ((v c : ℕ) → 0 < c → 0 < f v c) → partly_changed f (length ts) ts ≡ changed f ts
all f low [] r p = refl
all f low (t ∷ ts) r p =
    let above : 0 < f (t.var.0) t.coef = p (t.var.0) t.coef r.1 in
    let one : kept t (f (t.var.0) t.coef) ≡ (record t { coef = f (t.var.0) t.coef }) ∷ [] = kept_one t (f (t.var.0) t.coef) (λ z. omega (arith, above, z)) in
    ap (λ (us : List NormalTerm). (record t { coef = f (t.var.0) t.coef }) ∷ us) (all f (t.var.0 + 1) ts r.2 p) ∙ ap (λ (us : List NormalTerm). us ++ changed f ts) (sym one)

pub inside : (f : ℕ → ℕ → ℕ) (ts us : List NormalTerm) (i : ℕ) → i < length ts → us ≡ partly_changed f i ts → i < length us
inside f ts us i h e = omega (arith, h, ap (λ (xs : List NormalTerm). length xs) e, long f i ts)

was : (f : ℕ → ℕ → ℕ) (ts us : List NormalTerm) (i : ℕ) (t : NormalTerm) → us ≡ partly_changed f i ts → t ≡ get_or us i t → t ≡ get_or ts i t
was f ts us i t e h = h ∙ ap (λ (xs : List NormalTerm). get_or xs i t) e ∙ next_at f i ts t

-- where no coefficient above 0 becomes 0, the next one is above 0
pub above_none : (f : ℕ → ℕ → ℕ) (ts us : List NormalTerm) (i c : ℕ) (t : NormalTerm) → Rises 0 ts → i < length ts → us ≡ partly_changed f i ts → t ≡ get_or us i t → ((v n : ℕ) → 0 < n → 0 < f v n) → c ≡ f (t.var.0) t.coef → 0 < c
above_none f ts us i c t r h e k p g = omega (arith, g, p (t.var.0) t.coef (omega (arith, rises_at 0 ts i t r h, ap (λ (u : NormalTerm). u.coef) (was f ts us i t e k))))

-- where none becomes greater, the next one does not
pub no_greater : (f : ℕ → ℕ → ℕ) (us : List NormalTerm) (i c : ℕ) (t : NormalTerm) → i < length us → t ≡ get_or us i t → ((v n : ℕ) → f v n ≤ n) → c ≡ f (t.var.0) t.coef → (d : NormalTerm) → c ≤ (get_or us i d).coef
no_greater f us i c t h k down g d = omega (arith, g, down (t.var.0) t.coef, ap (λ (u : NormalTerm). u.coef) (k ∙ get_or_default us i t d h))

pub changed_next : (f : ℕ → ℕ → ℕ) (ts us next : List NormalTerm) (i c : ℕ) (t : NormalTerm) → i < length ts → us ≡ partly_changed f i ts → t ≡ get_or us i t → c ≡ f (t.var.0) t.coef → next ≡ with_coefficient us i c → next ≡ partly_changed f (i + 1) ts
changed_next f ts us next i c t h e k g n =
    let on : suc i ≡ i + 1 = omega arith in
    n ∙ ap (λ (xs : List NormalTerm). with_coefficient xs i c) e ∙ one_more f i c ts t h (was f ts us i t e k) g ∙ ap (λ (m : ℕ). partly_changed f m ts) on

pub changed_all : (f : ℕ → ℕ → ℕ) (ts us : List NormalTerm) (i : ℕ) → Rises 0 ts → ((v n : ℕ) → 0 < n → 0 < f v n) → i ≡ length ts → us ≡ partly_changed f i ts → us ≡ changed f ts
changed_all f ts us i r p e h = h ∙ ap (λ (n : ℕ). partly_changed f n ts) e ∙ all f 0 ts r p

-- with the coefficient that it has, a term is as it was
pub with_own : (ts : List NormalTerm) (i c : ℕ) → i < length ts → ((d : NormalTerm) → c ≡ (get_or ts i d).coef) → ts ≡ with_coefficient ts i c
with_own [] i c h is = refl
with_own (t ∷ ts) zero c h is = ap (λ (x : ℕ). (record t { coef = x }) ∷ ts) (sym (is t))
with_own (t ∷ ts) (suc i) c h is = ap (λ (us : List NormalTerm). t ∷ us) (with_own ts i c (omega (arith, h)) is)
