-- What is left of a list when its conversions but the last accepted of each kind are struck out.
-- Assumes nothing.
use Rattle.std.proofs.Common.{◌≡◌, ℕ, suc, ◌≤◌, Bool, true, false, cond, not, ◌&&◌, ◌||◌, List, [], ◌∷◌, sym, refl, ap, ◌∙◌, subst, arith}
use Rattle.std.proofs.lemmas.Bool.{true≢false, or_parts}
use Rattle.ledgers.specs.Ledgers.{fits}
use Rattle.ledgers.specs.declared.call.Change.{Change}
use Rattle.ledgers.specs.declared.call.Act.{Act}
use Rattle.ledgers.specs.declared.call.Act.TheVariants.{Write, Exchange, Convert, Read, Stamp}
use Rattle.ledgers.specs.declared.call.Call.{Call}
use Rattle.ledgers.specs.Struck.{Kind, StruckOut, how_many, kind, later, others, same_kind, struck}
use Rattle.ledgers.proofs.Untraced.{same_kind_is}

-- ---- how many are left of a kind: one at the most, and none where none is accepted
record Few (n : ℕ) (k : Kind) (cs : List Call) : Type 0 where
  pub most : how_many k (struck n cs) ≤ 1
  pub none : later k n cs ≡ false → how_many k (struck n cs) ≡ 0

module _ (n : ℕ) (k : Kind) (m : ℕ) (cs : List Call) (rest : Few n k cs) where
  -- a conversion, by whether it is accepted, whether one of its kind is behind, and whether it is of this kind
  converted : (d : Change) (fit lat same : Bool) → later (kind d) n cs ≡ lat → same_kind k (kind d) ≡ same
      → (how_many k (cond (fit && not lat) (record { memory = m; act = Convert d } ∷ struck n cs) (struck n cs)) ≤ 1)
      × (((same && fit) || later k n cs) ≡ false → how_many k (cond (fit && not lat) (record { memory = m; act = Convert d } ∷ struck n cs) (struck n cs)) ≡ 0)
  converted d false lat same el es = (rest.most, λ e. rest.none (or_parts (same && false) (later k n cs) e).1)
  converted d true true same el es = (rest.most, λ e. rest.none (or_parts (same && true) (later k n cs) e).1)
  converted d true false false el es =
      let one = ap (λ b. cond b (suc (how_many k (struck n cs))) (how_many k (struck n cs))) es in
      (subst (λ h. h ≤ 1) (sym one) rest.most, λ e. one ∙ rest.none e)
  converted d true false true el es =
      let one = ap (λ b. cond b (suc (how_many k (struck n cs))) (how_many k (struck n cs))) es in
      let nothing = rest.none (ap (λ j. later j n cs) (sym (same_kind_is k (kind d) es)) ∙ el) in
      (subst (λ h. h ≤ 1) (sym one) (omega arith), λ e. absurd (true≢false e))

few : (n : ℕ) (k : Kind) (cs : List Call) → Few n k cs
few n k [] = record { most = omega arith; none = λ _. refl }
few n k (c ∷ cs) = by_act c.act (few n k cs)
  where
    by_act : (a : Act) → Few n k cs → Few n k (record { memory = c.memory; act = a } ∷ cs)
    by_act (Write i b) rest = record { most = rest.most; none = rest.none }
    by_act (Exchange i j) rest = record { most = rest.most; none = rest.none }
    by_act (Convert d) rest =
        let both = converted n k c.memory cs rest d (fits n c.memory) (later (kind d) n cs) (same_kind k (kind d)) refl refl in
        record { most = both.0; none = both.1 }
    by_act (Read i len) rest = record { most = rest.most; none = rest.none }
    by_act (Stamp len) rest = record { most = rest.most; none = rest.none }

-- ---- nothing but conversions is struck
others-struck : (n : ℕ) (cs : List Call) → others (struck n cs) ≡ others cs
others-struck n [] = refl
others-struck n (c ∷ cs) = by_act c.act (others-struck n cs)
  where
    by_act : (a : Act) → others (struck n cs) ≡ others cs → others (struck n (record { memory = c.memory; act = a } ∷ cs)) ≡ others (record { memory = c.memory; act = a } ∷ cs)
    by_act (Write i b) e = ap (λ xs. record { memory = c.memory; act = Write i b } ∷ xs) e
    by_act (Exchange i j) e = ap (λ xs. record { memory = c.memory; act = Exchange i j } ∷ xs) e
    by_act (Convert d) e = dropped (fits n c.memory && not (later (kind d) n cs))
      where
        dropped : (b : Bool) → others (cond b (record { memory = c.memory; act = Convert d } ∷ struck n cs) (struck n cs)) ≡ others cs
        dropped true = e
        dropped false = e
    by_act (Read i len) e = ap (λ xs. record { memory = c.memory; act = Read i len } ∷ xs) e
    by_act (Stamp len) e = ap (λ xs. record { memory = c.memory; act = Stamp len } ∷ xs) e

pub struck_right : (n : ℕ) (cs : List Call) → StruckOut cs (struck n cs)
struck_right n cs = record { once = λ k. (few n k cs).most; rest = others-struck n cs }
