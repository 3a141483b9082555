use Rattle.std.proofs.Common.{refl}
use Rattle.std.proofs.lemmas.Result.{on_ok_weaker}
use Rattle.example_agreement.proofs.sensor.SensorSerialize.serialize.Goals as goal

pub returns : goal.returns
returns g c =
    on_ok_weaker c.end_map.result (λ ended. (
      _,
      _,
      c.in_ok-begin_map.ensures,
      (
        _,
        _,
        c.in_ok-key.ensures,
        c.in_ok-serialize.ensures,
        (
          _,
          _,
          c.in_ok-key-2.ensures,
          c.in_ok-serialize-2.ensures,
          (
            _,
            _,
            c.in_ok-key-3.ensures,
            c.in_ok-serialize-3.ensures,
            (
              _,
              _,
              c.in_ok-key-4.ensures,
              c.in_ok-serialize-4.ensures,
              (
                _,
                _,
                c.in_ok-key-5.ensures,
                c.in_ok-serialize-5.ensures,
                (_, _, c.in_ok-key-6.ensures, c.in_ok-serialize-6.ensures, refl),
              ),
            ),
          ),
        ),
      ),
      ended,
    )) c.end_map.ensures
