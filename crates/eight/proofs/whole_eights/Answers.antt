-- `whole_eights` goes on over eight bytes a turn: its parts are always those of the CRC of the eights so far.
use Rattle.std.proofs.Common.{rules, ◌≡◌, refl, ap, ◌∙◌, List, [], ◌∷◌, ◌++◌, ℕ, Bor}
use Rattle.std.specs.List.{concat}
use Rattle.std.proofs.lemmas.Fn.{fold_over, fronts}
use Rattle.std.proofs.iter.Yields.{slice_gives}
use Rattle.crc.specs.Crc.{crc_from, crc_of}
use Rattle.eight.specs.AtOnce.{settled}
use Rattle.eight.specs.declared.Parts.{Parts}
use Rattle.eight.proofs.AtOnce.{none, one_more}
use Rattle.eight.proofs.whole_eights.Goals as goal

-- the parts stand for the CRC of these eights
abbrev stands_for : List (List ℕ) → Parts → Type 0
stands_for eights p = settled p.remainder p.parity ≡ crc_of (concat eights)

pub returns-then-is_empty : goal.returns-then-is_empty
returns-then-is_empty c = none c.args.eights.now (search rules)

begin : stands_for [] (record { remainder = 0x0F14; parity = 0 })
unfolding settled crc_from
begin = refl

pub returns : goal.returns
returns c =
    let step : (ys : List (List ℕ)) (a : Parts) (x : Bor (List ℕ)) (b : Parts) (e : settled b.remainder b.parity ≡ crc_from (settled a.remainder a.parity) x.now) → stands_for ys a → stands_for (ys ++ x.now ∷ []) b = λ ys a x b e h. one_more ys x.now _ _ h e in
    c.settled.ensures
    ∙ fold_over fronts (λ y. y.now) _ stands_for _ (λ ys a x b f' h k. (step ys a x b (search rules) h, search rules)) c.iter.result c.iter.result.rest.now _ c.fold.result (slice_gives c.iter.result) begin c.fold.ensures.ran
    ∙ ap (λ (all : List (List ℕ)). crc_of (concat all)) c.iter.ensures.rest
