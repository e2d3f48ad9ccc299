use Rattle.std.proofs.Common.{[], lit<, rules}
use Rattle.aes.specs.KeySets.{key_of}
use Rattle.aes.proofs.Table.{step}
use Rattle.ciphers.specs.Aes.{aes, inv_aes}
use Rattle.ciphers.proofs.Rows.{row_key, inv_aes_rounds_run}
use Rattle.ciphers.proofs.Untweaked.{inv_aes_untweaked, aes_redone}
use Rattle.ciphers.proofs.aes128.Aes128.decrypt.Goals as goal

pub returns : goal.returns
unfolding inv_aes
returns c =
    let keys = c.args.self.now.keys in
    let key = key_of keys in
    let b = c.args.block in
    let e = inv_aes_rounds_run keys 9 c.add_round_key.result (search rules) in
    let first = row_key keys 10 (record { bytes = [] }) (lit< tt) in
    let last = row_key keys 0 (record { bytes = [] }) (lit< tt) in
    let u = inv_aes_untweaked key keys.scheduled.0 b in record {
      made = step (inv_aes key) (aes key) b _ (cc) (aes_redone key keys.scheduled.0 b (search rules, λ j. search rules));
      untweaked = cc;
    }
