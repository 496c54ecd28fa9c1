-- What is kept under the values of ports.
use Rattle.std.proofs.Common.{◌≡◌, ◌≢◌, ℕ, Some, None, List, ◌∷◌, refl, sym, ap, ◌∙◌, arith}
use Rattle.std.specs.FinMap.{empty, get, get-empty, insert, remove}
use Rattle.fm_base.specs.declared.path.ChanName.{ChanName}
use Rattle.fm_base.specs.declared.port.PortValue.{PortValue}
use Rattle.fm_base.specs.declared.port.PortValue.TheVariants.{Writer, Reader}
use Rattle.fm_base.specs.PathOrder.{channel_cmp}
use Rattle.fm_finmap.specs.Map.{map_of}
use Rattle.fm_finmap.proofs.Keys.{channel_order}
use Rattle.fm_finmap.proofs.Inserts.{insert_here, insert_there, remove_there}
use Rattle.fm_net.specs.Owned.{count, one}
use Rattle.fm_net.proofs.Counts.{count-cons, one_self}
use Rattle.fm_mean.specs.declared.outport.Outport.{Outport}
use Rattle.fm_mean.specs.Outports.{outport_cmp}
use Rattle.fm_run.proofs.Holding.{outport_order}
use Rattle.fm_plain_net.specs.declared.ports.Ports.{Ports}
use Rattle.fm_plain_net.specs.Readings.{kept}

pub kept_reader : (ports : Ports) (c : ChanName) → kept ports (Reader c) ≡ get (map_of channel_cmp ports.inports) c
unfolding kept
kept_reader ports c = refl

pub kept_writer : (ports : Ports) (c : ChanName) (w : ℕ) → kept ports (Writer c w) ≡ get (map_of outport_cmp ports.outports) (record { channel = c; number = w })
unfolding kept
kept_writer ports c w = refl

-- where there are no ports
pub none_kept : (ports : Ports) → map_of outport_cmp ports.outports ≡ empty → map_of channel_cmp ports.inports ≡ empty → (z : PortValue) → kept ports z ≡ None
none_kept ports e f (Writer c w) = kept_writer ports c w ∙ (ap (λ m. get m (record { channel = c; number = w })) e ∙ get-empty outport_cmp (record { channel = c; number = w }))
none_kept ports e f (Reader c) = kept_reader ports c ∙ (ap (λ m. get m c) f ∙ get-empty channel_cmp c)

module _ (old new : Ports) where
  module _ (c : ChanName) (same : map_of outport_cmp new.outports ≡ map_of outport_cmp old.outports) where
    reader_others : ((d : ChanName) → d ≢ c → get (map_of channel_cmp new.inports) d ≡ get (map_of channel_cmp old.inports) d) → (y : PortValue) → y ≢ Reader c → kept new y ≡ kept old y
    reader_others there (Writer d w) off = kept_writer new d w ∙ ap (λ m. get m (record { channel = d; number = w })) same ∙ sym (kept_writer old d w)
    reader_others there (Reader d) off = kept_reader new d ∙ there d (λ e. off (ap Reader e)) ∙ sym (kept_reader old d)

    pub put_reader : (z : PortValue) → z ≡ Reader c → map_of channel_cmp new.inports ≡ insert (map_of channel_cmp old.inports) c z → kept new z ≡ Some z
    put_reader z is puts = ap (kept new) is ∙ kept_reader new c ∙ ap (λ m. get m c) puts ∙ insert_here channel_order (map_of channel_cmp old.inports) c z

    pub put_reader_others : (z : PortValue) → z ≡ Reader c → map_of channel_cmp new.inports ≡ insert (map_of channel_cmp old.inports) c z → (y : PortValue) → y ≢ z → kept new y ≡ kept old y
    put_reader_others z is puts y off =
        reader_others (λ d away. ap (λ m. get m d) puts ∙ insert_there channel_order (map_of channel_cmp old.inports) c z d away) y (λ e. off (e ∙ sym is))

    pub take_reader_others : (z : PortValue) → z ≡ Reader c → map_of channel_cmp new.inports ≡ remove (map_of channel_cmp old.inports) c → (y : PortValue) → y ≢ z → kept new y ≡ kept old y
    take_reader_others z is takes y off =
        reader_others (λ d away. ap (λ m. get m d) takes ∙ remove_there channel_order (map_of channel_cmp old.inports) c d away) y (λ e. off (e ∙ sym is))

  module _ (c : ChanName) (w : ℕ) (same : map_of channel_cmp new.inports ≡ map_of channel_cmp old.inports) where
    writer_others : ((k : Outport) → k ≢ record { channel = c; number = w } → get (map_of outport_cmp new.outports) k ≡ get (map_of outport_cmp old.outports) k) → (y : PortValue) → y ≢ Writer c w → kept new y ≡ kept old y
    writer_others there (Reader d) off = kept_reader new d ∙ ap (λ m. get m d) same ∙ sym (kept_reader old d)
    writer_others there (Writer d v) off =
        kept_writer new d v ∙ there (record { channel = d; number = v }) (λ e. off (ap (λ (k : Outport). Writer k.channel k.number) e)) ∙ sym (kept_writer old d v)

    pub put_writer : (z : PortValue) → z ≡ Writer c w → map_of outport_cmp new.outports ≡ insert (map_of outport_cmp old.outports) (record { channel = c; number = w }) z → kept new z ≡ Some z
    put_writer z is puts = ap (kept new) is ∙ kept_writer new c w ∙ ap (λ m. get m (record { channel = c; number = w })) puts ∙ insert_here outport_order (map_of outport_cmp old.outports) (record { channel = c; number = w }) z

    pub put_writer_others : (z : PortValue) → z ≡ Writer c w → map_of outport_cmp new.outports ≡ insert (map_of outport_cmp old.outports) (record { channel = c; number = w }) z → (y : PortValue) → y ≢ z → kept new y ≡ kept old y
    put_writer_others z is puts y off =
        writer_others (λ k away. ap (λ m. get m k) puts ∙ insert_there outport_order (map_of outport_cmp old.outports) (record { channel = c; number = w }) z k away) y (λ e. off (e ∙ sym is))

    pub take_writer_others : (z : PortValue) → z ≡ Writer c w → map_of outport_cmp new.outports ≡ remove (map_of outport_cmp old.outports) (record { channel = c; number = w }) → (y : PortValue) → y ≢ z → kept new y ≡ kept old y
    take_writer_others z is takes y off =
        writer_others (λ k away. ap (λ m. get m k) takes ∙ remove_there outport_order (map_of outport_cmp old.outports) (record { channel = c; number = w }) k away) y (λ e. off (e ∙ sym is))

-- a port that isn't among these is another
pub apart : (z y : PortValue) (ys : List PortValue) → count z (y ∷ ys) ≡ 0 → z ≢ y
apart z y ys none e = absurd (omega (arith, count-cons z y ys, one_self z, ap (λ (v : PortValue). one v z) (sym e)))
