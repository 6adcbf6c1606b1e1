mod TileFacts
