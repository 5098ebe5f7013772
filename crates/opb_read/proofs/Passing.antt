-- Tokens that are passed one by one.
use Rattle.std.proofs.Common.{◌≡◌, List, [], ◌∷◌, ◌++◌, drop, refl, sym, ap, subst, ◌∙◌, append_assoc}
use Rattle.pb_text.specs.Lexeme.{Lexeme}
use Rattle.opb_read.specs.Progress.{Progress, Step, IsPassed, Passes, Reaches, Refuses, StopsAt, HoldsLimits}
use Rattle.opb_read.specs.declared.fault.OpbCode.{OpbCode}

passes_more : (xs : List Lexeme) (t : Lexeme) (s q r : Progress) → Passes s xs q → Step q t r → Passes s (xs ++ t ∷ []) r
passes_more [] t s q r h k = (r, subst (λ x. Step x t r) h k, refl)
passes_more (x ∷ xs) t s q r h k = (h.0, h.1, passes_more xs t h.0 q r h.2 k)

-- one token more
pub reaches_more : (s q r : Progress) (a b c : List Lexeme) (t : Lexeme) → Reaches s a q b → Step q t r → b ≡ t ∷ drop 1 b → c ≡ drop 1 b → Reaches s a r c
reaches_more s q r a b c t h k at next = record {
  passed = h.passed ++ t ∷ [];
  split = h.split ∙ ap (λ l. h.passed ++ l) (at ∙ ap (λ l. t ∷ l) (sym next)) ∙ sym (append_assoc h.passed (t ∷ []) c);
  passes = passes_more h.passed t s q r h.passes k;
}

-- limits hold wherever a reader comes
pub passes_holds : (xs : List Lexeme) (s q : Progress) → HoldsLimits s → Passes s xs q → HoldsLimits q
passes_holds [] s q h p = subst HoldsLimits (sym p) h
passes_holds (t ∷ ts) s q h p = passes_holds ts p.0 q p.1.counts p.2

passes_on : (xs ys : List Lexeme) (s q r : Progress) → Passes s xs q → Passes q ys r → Passes s (xs ++ ys) r
passes_on [] ys s q r h k = subst (λ x. Passes x ys r) h k
passes_on (x ∷ xs) ys s q r h k = (h.0, h.1, passes_on xs ys h.0 q r h.2 k)

-- on from where a reader has come
pub reaches_on : (s q r : Progress) (a b c : List Lexeme) → Reaches s a q b → Reaches q b r c → Reaches s a r c
reaches_on s q r a b c h k = record {
  passed = h.passed ++ k.passed;
  split = h.split ∙ ap (λ l. h.passed ++ l) k.split ∙ sym (append_assoc h.passed k.passed c);
  passes = passes_on h.passed k.passed s q r h.passes k.passes;
}

-- the token that stood next, passed
pub reaches_passed : (s q r : Progress) (a b c : List Lexeme) → Reaches s a q b → IsPassed q b r c → Reaches s a r c
reaches_passed s q r a b c h p = record {
  passed = h.passed ++ p.token ∷ [];
  split = h.split ∙ ap (λ l. h.passed ++ l) p.first ∙ sym (append_assoc h.passed (p.token ∷ []) c);
  passes = passes_more h.passed p.token s q r h.passes p.step;
}

-- a fault at the token that stands next
pub stops_here : (code : OpbCode) (s q : Progress) (a b c : List Lexeme) → Reaches s a q b → c ≡ b → Refuses code q b → StopsAt code s a c
stops_here code s q a b c h e f = rw e (record { last = q; reaches = h; refuses = f })

-- a fault behind where a reader has come
pub stops_behind : (code : OpbCode) (s q : Progress) (a b c : List Lexeme) → Reaches s a q b → StopsAt code q b c → StopsAt code s a c
stops_behind code s q a b c h f = record { last = f.last; reaches = reaches_on s q f.last a b c h f.reaches; refuses = f.refuses }
