-- What is computed of a track is what is stated: `replots-iff`. It is a map of the answer for one point (`track-map`), and a refused text leaves the track
-- (`track-untouched`); a track may be cut (`track-append`). Assumes nothing.
use mathlib.Core.List.{List, [], ◌∷◌, ◌++◌, map}
use mathlib.Core.Logic.{◌↔◌}
use mathlib.Core.Path.{◌≡◌, refl, sym, ap, subst, ◌∙◌}
use Prim.Native.Nat.{ℕ}
use lib.IntN.{ℤ}
use Rattle.table.specs.Table.{Table}
use Rattle.geometry.specs.declared.Point.{Point}
use Rattle.boundary.specs.declared.Refusal.{Refusal}
use Rattle.std.specs.Prelude.{Result, Ok, Err}
use Rattle.plane.specs.Corners.{corners_in}
use Rattle.boundary.specs.Boundary.{Bounds, Refuses}
use Rattle.boundary.specs.Exact.{boundary_of, left_corners, query_of}
use Rattle.boundary.specs.Calls.{ReadOf}
use Rattle.boundary.proofs.AnswerLaws.{read-bounds, read-refuses, Either, has-bounds, is-refused, either, answered-query, query-answered}
use Rattle.replot.specs.declared.TrackPoint.{TrackPoint}
use Rattle.replot.specs.Track.{point_of, with_answer, EachAnswered, no_entries, entry, Replots, answered, untouched}
use Rattle.replot.specs.Exact.{answered_by, track_by, track_of}
use Rattle.replot.specs.Calls.{ReplotOf}

-- an entry with the answer for the text s and its point alone
abbrev pub alone : List ℕ → TrackPoint → TrackPoint
alone s p = with_answer p (query_of s (point_of p))

-- ---- the call is a map of the answer for one point, or changes nothing

answered-alone : (s : List ℕ) (n : ℕ) (p : TrackPoint) → boundary_of s ≡ Ok n → answered_by (corners_in (left_corners s) n) p ≡ alone s p
unfolding answered_by query_of
answered-alone s n p e = rw e refl

map_same : {A B : Type 0} (f g : A → B) → ((x : A) → f x ≡ g x) → (l : List A) → map f l ≡ map g l
map_same f g e [] = refl
map_same f g e (x ∷ l) = λ i. e x i ∷ map_same f g e l i

module _ (s : List ℕ) (t : List TrackPoint) where
  by-corners : {n : ℕ} → boundary_of s ≡ Ok n → track_of s t ≡ map (alone s) t
  unfolding track_of
  by-corners {n} e =
      ap (λ (b : Result ℕ Refusal). track_by b (left_corners s) t) e
      ∙ map_same (answered_by (corners_in (left_corners s) n)) (alone s) (λ p. answered-alone s n p e) t

  -- where the text has a boundary, every entry gets what its point gets alone
  pub track-map : {ps : List Point} → Bounds s ps → track_of s t ≡ map (alone s) t
  track-map b = by-corners (read-bounds b).boundary

  -- where the text or a corner is refused, no entry changes
  pub track-untouched : {k : Refusal} → Refuses s k → track_of s t ≡ t
  unfolding track_of
  track-untouched r = ap (λ (b : Result ℕ Refusal). track_by b (left_corners s) t) (read-refuses r)

-- ---- what is stated

each-alone : (s : List ℕ) (t : List TrackPoint) → EachAnswered s t (map (alone s) t)
each-alone s [] = no_entries
each-alone s (p ∷ t) = entry (answered-query s (point_of p)) (each-alone s t)

alone-each : {s : List ℕ} {t u : List TrackPoint} → EachAnswered s t u → u ≡ map (alone s) t
alone-each no_entries = refl
alone-each (entry {p} x r) = λ i. with_answer p (query-answered x i) ∷ alone-each r i

-- what is computed is what is stated
pub replots-track : (s : List ℕ) (t : List TrackPoint) → Replots s t (track_of s t)
replots-track s t = go (either s)
  where
    go : Either s → Replots s t (track_of s t)
    go (has-bounds b) = subst (Replots s t) (sym (track-map s t b)) (answered b (each-alone s t))
    go (is-refused r) = subst (Replots s t) (sym (track-untouched s t r)) (untouched r)

-- what is stated is what is computed
pub track-replots : {s : List ℕ} {t u : List TrackPoint} → Replots s t u → u ≡ track_of s t
track-replots {s} {t} (answered b x) = alone-each x ∙ sym (track-map s t b)
track-replots {s} {t} (untouched r) = sym (track-untouched s t r)

-- of a text and a track exactly one track comes out, and it is the one that is computed
pub replots-iff : (s : List ℕ) (t u : List TrackPoint) → Replots s t u ↔ (u ≡ track_of s t)
replots-iff s t u = (track-replots, λ e. subst (Replots s t) (sym e) (replots-track s t))

-- ---- tracks in parts

map-append : {A B : Type 0} (f : A → B) (t u : List A) → map f (t ++ u) ≡ map f t ++ map f u
map-append f [] u = refl
map-append f (x ∷ t) u = ap (λ (l : List _). f x ∷ l) (map-append f t u)

-- a track may be handed over in parts, where the text is read once
pub track_by-append : (b : Result ℕ Refusal) (l : List ℤ) (t u : List TrackPoint) → track_by b l (t ++ u) ≡ track_by b l t ++ track_by b l u
track_by-append (Ok n) l t u = map-append (answered_by (corners_in l n)) t u
track_by-append (Err k) l t u = refl

pub track-append : (s : List ℕ) (t u : List TrackPoint) → track_of s (t ++ u) ≡ track_of s t ++ track_of s u
unfolding track_of
track-append s t u = track_by-append (boundary_of s) (left_corners s) t u

-- ---- the code's need

-- what was read of the text, and the track after it
pub replot-of-read : {s : List ℕ} {b : Result ℕ Refusal} {l : List ℤ} {m : Table} {t u : List TrackPoint} → ReadOf s b l m → u ≡ track_by b l t → ReplotOf s t b u l m
unfolding track_of
replot-of-read {s} {t = t} x e =
    record { boundary = x.boundary; track = e ∙ rw (x.boundary, x.corners_left) refl; corners_left = x.corners_left; table_left = x.table_left }
