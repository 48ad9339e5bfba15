mod RunPins
