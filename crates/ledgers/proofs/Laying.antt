-- A strip laid from a text stands for the ledger laid from it. Assumes nothing.
use Rattle.std.proofs.Common.{◌≡◌, ℕ, ◌-◌, ◌*◌, List, length, replicate, sym, refl, arith}
use Rattle.std.proofs.lemmas.List.{length-append, length-replicate}
use Rattle.ledgers.specs.Rows.{Piles, Small}
use Rattle.ledgers.specs.Ledgers.{ledger_lay, count_of, filled}
use Rattle.ledgers.specs.Laws.{StandsFor}
use Rattle.ledgers.specs.Machine.{laid}
use Rattle.ledgers.proofs.Cells.{length-cells, get_or-cells}
use Rattle.ledgers.proofs.Places.{cell_blocks, small_filled}

pub filled_long : (text : List ℕ) → length (filled text) ≡ 16 * count_of text
filled_long text = omega (arith, length-append text (replicate (16 * count_of text - length text) 0), length-replicate {A = ℕ} (16 * count_of text - length text) 0)

pub laid_stands : (piles : Piles) (number : ℕ) (text : List ℕ) → Small text → StandsFor piles (laid number text) (ledger_lay number text)
laid_stands piles number text h = record {
  count = sym (length-cells (count_of text) (filled text));
  same_place = refl;
  size = filled_long text;
  each = λ k lt. sym (get_or-cells (count_of text) (filled text) k lt);
  blocks = cell_blocks (count_of text) (filled text) (filled_long text) (small_filled text (16 * count_of text - length text) h);
}
