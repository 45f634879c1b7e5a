-- Which texts a builder is asked for, one command after the other.
use Rattle.std.proofs.Common.{◌≡◌, [], ◌++◌, refl, sym, ap, ◌∙◌, subst}
use Rattle.std.specs.Prelude.{Option}
use Rattle.scan_world.specs.Files.{Files}
use Rattle.decided_texts.specs.Decided.{Decisions}
use Rattle.decided_texts.specs.Asking.{Settles}
use Rattle.decided_texts.proofs.Asking.{settles_none, settles_then}
use Rattle.running_rules.specs.Running.{stated, texts_of}
use Rattle.wire_stream.specs.declared.wire.Wire.{Wire}
use Rattle.wire_stream.specs.declared.wire.Wire.TheVariants as wires
use Rattle.workspace.specs.State.{State}
use Rattle.workspace.specs.Reports.{Readings}
use Rattle.stream_run.specs.Asking.{Asks, GoesBy, AsksOnce}
use Rattle.stream_run.specs.Still.{IsNew, IsSync}
use Rattle.stream_run.proofs.Gained.{Texts}

-- the texts that a builder was asked for, where it tells them
abbrev pub Asked : Type 0
Asked = Option Texts

-- no text is decided
abbrev pub nothing_decided : Decisions
nothing_decided = record { refused = []; built = [] }

pub none_decided : (state : State) → IsNew state → state.decided ≡ nothing_decided
none_decided state new =
    ap (λ (texts : Texts). record { refused = texts; built = state.decided.built }) new.refused ∙ ap (λ (texts : Texts). record { refused = []; built = texts }) new.built

pub none_asked : (state : State) → IsNew state → (asked : Asked) → Settles [] nothing_decided state.decided asked asked
none_asked state new asked = subst (λ (d : Decisions). Settles [] nothing_decided d asked asked) (sym (none_decided state new)) (settles_none nothing_decided asked)

-- where nothing was decided before, the builder was asked for each text once
pub asks_once : (texts : Texts) (new : Decisions) (before after : Asked) → Settles texts nothing_decided new before after → AsksOnce before after texts
asks_once texts new before after settles = settles.asked

pub asks_nothing : (asked : Asked) → AsksOnce asked asked []
asks_nothing asked = asks_once [] nothing_decided asked asked (settles_none nothing_decided asked)

-- the command went by these texts, and those that weren't decided are decided after it
pub record WentBy (readings : Readings) (rules : Files) (wire : Wire) (old new : Decisions) (before after : Asked) : Type 0 where
  pub texts : Texts
  pub goes_by : GoesBy readings rules wire texts
  pub settles : Settles texts old new before after

-- the texts that commands went by, and those of one more
pub settles_more : (readings : Readings) (rules : Files) (wire : Wire) (texts : Texts) (old new : Decisions) (first before after : Asked) → Settles texts nothing_decided old first before → (more : WentBy readings rules wire old new before after)
    → Settles (texts ++ more.texts) nothing_decided new first after
settles_more readings rules wire texts old new first before after settles more = settles_then texts more.texts nothing_decided old new first before after settles more.settles

module _ (readings : Readings) (rules : Files) (old new : Decisions) (before after : Asked) where
  went_by_none : (wire : Wire) → GoesBy readings rules wire [] → new ≡ old → after ≡ before → WentBy readings rules wire old new before after
  went_by_none wire none same still = record {
    texts = [];
    goes_by = none;
    settles =
        let S : Decisions → Asked → Type 0 = λ d asked. Settles [] old d before asked in
        subst (S new) (sym still) (subst (λ (d : Decisions). S d before) (sym same) (settles_none old before));
  }

  pub went_by : (wire : Wire) → Asks readings rules wire old new before after → WentBy readings rules wire old new before after
  went_by (wires.Put path bytes) asks = went_by_none (wires.Put path bytes) refl asks.0 asks.1
  went_by (wires.Del path) asks = went_by_none (wires.Del path) refl asks.0 asks.1
  went_by (wires.Rule name bytes) asks = went_by_none (wires.Rule name bytes) refl asks.0 asks.1
  went_by (wires.Unrule name) asks = went_by_none (wires.Unrule name) refl asks.0 asks.1
  went_by (wires.Sync prefix) asks = went_by_none (wires.Sync prefix) refl asks.0 asks.1
  went_by wires.Scan asks = record { texts = texts_of (stated asks.contents); goes_by = (asks.contents, asks.are, refl); settles = asks.settles }
  went_by wires.Fix asks = record { texts = texts_of (stated asks.contents); goes_by = (asks.contents, asks.are, refl); settles = asks.settles }
  went_by wires.End asks = went_by_none wires.End refl asks.0 asks.1

  -- a look into the folder asks for no text
  pub sync_asks_none : (wire : Wire) → IsSync wire → Asks readings rules wire old new before after → after ≡ before
  sync_asks_none (wires.Put path bytes) is asks = absurd is
  sync_asks_none (wires.Del path) is asks = absurd is
  sync_asks_none (wires.Rule name bytes) is asks = absurd is
  sync_asks_none (wires.Unrule name) is asks = absurd is
  sync_asks_none (wires.Sync prefix) is asks = asks.1
  sync_asks_none wires.Scan is asks = absurd is
  sync_asks_none wires.Fix is asks = absurd is
  sync_asks_none wires.End is asks = absurd is
