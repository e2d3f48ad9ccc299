-- A strip laid from a text. Assumes nothing.
use Rattle.std.proofs.Common.{◌≡◌, ℕ, List, length, None, sym, subst}
use Rattle.ledgers.specs.Rows.{Small}
use Rattle.ledgers.specs.Ledgers.{ledger_lay, lay_refusal}
use Rattle.ledgers.specs.Machine.{laid}
use Rattle.ledgers.specs.Laws.{StandsFor}
use Rattle.ledgers.proofs.Laying.{laid_stands}
use Rattle.sealed.specs.Calls.{Laid, state}
use Rattle.sealed.specs.declared.strip.Strip.{Strip}

pub lays : (number : ℕ) (text m m' : List ℕ) (s : Strip) → Small text → lay_refusal (length text) (length m) ≡ None → state s m' ≡ laid number text → Laid number text m m' s
lays number text m m' s small passed is = record {
  passed = passed;
  is = is;
  stands = λ piles. subst (λ t. StandsFor piles t (ledger_lay number text)) (sym is) (laid_stands piles number text small);
}
